use Rattle.std.proofs.Common.{subst}
use Rattle.std.proofs.lemmas.Result.{IfOk-weaker}
use Rattle.hdl_proxy.specs.Answer.{Answers, IsLocated}
use Rattle.hdl_proxy.specs.Found.{IsFoundOf}
use Rattle.hdl_proxy.proofs.Located.{found_located}
use Rattle.hdl_proxy.proofs.proxy.finish.Goals as goal

pub returns-clause-answers : goal.returns-clause-answers
returns-clause-answers c =
    let found : IsFoundOf c.args.question.now.name c.args.answered c.in_ok-found.found = subst (λ name. IsFoundOf name c.args.answered c.in_ok-found.found) c.sent.ensures.octets c.in_ok-found.ensures in
    IfOk-weaker c.answer_found.result _ (Answers c.args.question.now c.args.answered) (λ a h. (c.in_ok-found.found, (found, h))) c.answer_found.ensures

pub returns-clause-located : goal.returns-clause-located
returns-clause-located c = IfOk-weaker c.answer_found.result _ IsLocated (found_located _ _ _ _ _) c.answer_found.ensures
