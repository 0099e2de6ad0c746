use Rattle.std.proofs.Common.{inr, rules}
use Rattle.std.proofs.lemmas.Result.{IfOk-weaker}
use Rattle.hdl_name.specs.Fault.{IsFaultOf}
use Rattle.hdl_name.specs.Name.{IsHandle}
use Rattle.hdl_proxy.specs.Begin.{IsFaultSentence, LeadsToName}
use Rattle.hdl_proxy.proofs.proxy.lead.Goals as goal

pub returns-in-Err-clause-leads : goal.returns-in-Err-clause-leads
returns-in-Err-clause-leads c =
    let none : ¬ (IsHandle c.args.sent.now) = search rules in
    let first : IsFaultOf c.args.sent.now c.in-Err.fault = search rules in
    let why : IsFaultSentence c.args.language c.args.sent.now c.words-why.result.now = (c.in-Err.fault, (first, search rules)) in
    IfOk-weaker c.bad_request.result _ (LeadsToName c.args.language c.args.sent.now) (λ answer h. inr (none, (c.words-why.result.now, (why, h)))) c.bad_request.ensures.refuses
