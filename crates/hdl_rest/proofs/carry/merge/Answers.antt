use Rattle.std.proofs.Common.{◌≡◌, ◌∙◌, ap, false, refl, map, rules}
use Rattle.hdl_msg.specs.RequestBody.{requested_operation}
use Rattle.hdl_rest.specs.Plan.{merging}
use Rattle.hdl_rest.proofs.Ones.{carried_by_reading}
use Rattle.hdl_rest.proofs.Sendings.{asked_nothing}
use Rattle.hdl_rest.proofs.carry.merge.Goals as goal

pub returns-in_err-asked-clause-asked : goal.returns-in_err-asked-clause-asked
returns-in_err-asked-clause-asked g c = asked_nothing (false, refl, search rules)

pub returns-in-Ok-clause-asked : goal.returns-in-Ok-clause-asked
returns-in-Ok-clause-asked g c =
    let same : map requested_operation c.deref-in-Ok-2.result.now ≡ merging c.args.order.now.name c.in-Ok.there.items c.args.values.now =
    ap (map requested_operation) c.deref-in-Ok-2.ensures.value ∙ c.in_ok-steps-in-Ok.ensures ∙ ap (λ h. merging h c.deref-in-Ok.result.now c.args.values.now) c.sent.ensures.octets
    ∙ ap (λ ns. merging c.args.order.now.name ns c.args.values.now) c.deref-in-Ok.ensures.value in
    carried_by_reading c.args.order.now.key c.args.order.now.name c.deref.result.now (map (λ value. value.index) c.args.values.now) (λ there. merging c.args.order.now.name there c.args.values.now) c.in-Ok.there.items _ c.carry_steps.result
    (c.deref.ensures.value ∙ c.in_ok-asked.ensures) same c.in-Ok.ensures.asked c.carry_steps.ensures.asked
