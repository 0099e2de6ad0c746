use Rattle.std.proofs.Common.{◌≡◌, ℕ, List, subst}
use Rattle.std.specs.Prelude.{option_copied}
use Rattle.std.proofs.lemmas.Result.{IfOk-weaker}
use Rattle.hdl_proxy.specs.Begin.{LeadsFromPasted, LeadsToName}
use Rattle.hdl_proxy.specs.declared.answer.Answer.{Answer}
use Rattle.hdl_proxy.proofs.proxy.lead_from.Goals as goal

pub returns-clause-leads : goal.returns-clause-leads
returns-clause-leads c =
    let own = option_copied c.args.own in
    let name : List ℕ = c.in_ok-name.name.items in
    let meant : c.deref.result.now ≡ name = c.deref.ensures.value in
    IfOk-weaker c.lead.result _ (LeadsFromPasted c.args.language own c.args.sent.now)
    (λ (a : Answer) h. (name, (c.in_ok-name.ensures, subst (λ (octets : List ℕ). LeadsToName c.args.language octets a) meant h)))
    c.lead.ensures.leads
