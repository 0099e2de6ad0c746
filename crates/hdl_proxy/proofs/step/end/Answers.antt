use Rattle.std.proofs.Common.{◌≡◌, ℕ, List, Option, slice_get, subst, rules}
use Rattle.std.specs.Prelude.{IfOk, option_copied}
use Rattle.std.proofs.lemmas.Result.{IfOk-weaker}
use Rattle.hdl_proxy.specs.Answer.{IsLocated}
use Rattle.hdl_proxy.specs.Format.{language_of}
use Rattle.hdl_proxy.specs.Step.{Ends, IsNamed}
use Rattle.hdl_proxy.proofs.Located.{found_located}
use Rattle.hdl_proxy.proofs.Within.{named_located, within_located}
use Rattle.hdl_proxy.proofs.step.end.Goals as goal

pub returns-clause-ends : goal.returns-clause-ends
returns-clause-ends c =
    let kept = c.within-kept.result in
    let first : option_copied c.first.result ≡ slice_get c.args.question.now.passed.items 0 = search rules in
    let in_language = subst (λ language. IfOk c.with_asked_name.result (IsNamed language (option_copied c.first.result) kept)) c.language.ensures c.with_asked_name.ensures in
    let named = subst (λ (o : Option (List ℕ)). IfOk c.with_asked_name.result (IsNamed (language_of c.args.question.now.form) o kept)) first in_language in
    IfOk-weaker c.with_asked_name.result _ (Ends c.args.question.now c.args.found.now) (λ a n. (c.in_ok-answer.answer, kept, (c.in_ok-answer.ensures, c.within-kept.ensures, n))) named

pub returns-clause-located : goal.returns-clause-located
returns-clause-located c =
    let kept = within_located _ c.in_ok-answer.answer c.within-kept.result (found_located _ _ _ _ _ _ c.in_ok-answer.ensures) c.within-kept.ensures in
    IfOk-weaker c.with_asked_name.result _ IsLocated (λ a named. named_located _ _ c.within-kept.result a kept named) c.with_asked_name.ensures
