use Rattle.std.proofs.Common.{◌≡◌, ◌∙◌, [], ap, map, refl}
use Rattle.hdl_msg.specs.RequestBody.{requested_operation}
use Rattle.hdl_rest.specs.Plan.{replacing}
use Rattle.hdl_rest.proofs.Ones.{carried_by_reading}
use Rattle.hdl_rest.proofs.carry.overwrite.Goals as goal

pub returns-in_ok-steps-in-Ok-2-clause-asked : goal.returns-in_ok-steps-in-Ok-2-clause-asked
returns-in_ok-steps-in-Ok-2-clause-asked g c =
    let same : map requested_operation c.deref-in-Ok-2.result.now ≡ replacing c.args.order.now.name c.in-Ok.there.items c.args.values.now =
    ap (map requested_operation) c.deref-in-Ok-2.ensures.value ∙ c.in_ok-steps-in-Ok-2.ensures ∙ ap (λ h. replacing h c.deref.result.now c.args.values.now) c.sent-in-Ok-2.ensures.octets
    ∙ ap (λ ns. replacing c.args.order.now.name ns c.args.values.now) c.deref.ensures.value in
    carried_by_reading c.args.order.now.key c.args.order.now.name [] [] (λ there. replacing c.args.order.now.name there c.args.values.now) c.in-Ok.there.items _ c.carry_steps.result refl same c.in-Ok.ensures.asked c.carry_steps.ensures.asked
