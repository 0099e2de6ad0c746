use Rattle.std.proofs.Common.{◌≡◌, ◌∙◌, ap, true, false, refl, rules}
use Rattle.std.specs.Prelude.{Err}
use Rattle.hdl_msg.specs.Codes.{response_number}
use Rattle.hdl_msg.specs.Message.{create}
use Rattle.hdl_msg.specs.RequestBody.{requested_operation}
use Rattle.hdl_msg.specs.declared.codes.ResponseCode.TheVariants.{HandleAlreadyExists}
use Rattle.hdl_rest.specs.declared.stop.ChangeFault.TheVariants.{Code}
use Rattle.hdl_rest.proofs.Ones.{existing, makes_of, told_so}
use Rattle.hdl_rest.proofs.Sendings.{asked_so, asked_then, not_replaced, replaced, replaced_by}
use Rattle.hdl_rest.proofs.carry.replace.Goals as goal

pub returns-in-Ok-clause-asked : goal.returns-in-Ok-clause-asked
returns-in-Ok-clause-asked g c =
    let same : requested_operation c.in_ok-body.body ≡ create c.args.order.now.name c.args.values.now = c.in_ok-body.ensures ∙ ap (λ h. create h c.args.values.now) c.sent.ensures.octets in
    asked_so c.in-Ok.ensures.asked (λ xs makes. (true, replaced c.args.order.now.key c.args.order.now.name c.args.values.now _ xs (makes_of _ _ _ _ xs same makes), told_so _ _ _ true c.success.ensures.told refl))

pub returns-in-Err-Code-clause-asked : goal.returns-in-Err-Code-clause-asked
returns-in-Err-Code-clause-asked g c =
    let same : requested_operation c.in_ok-body.body ≡ create c.args.order.now.name c.args.values.now = c.in_ok-body.ensures ∙ ap (λ h. create h c.args.values.now) c.sent.ensures.octets in
    let is : c.make_change.result ≡ Err (Code c.in-Err-Code.code) = cc (c.in-Err-Code.is, c.in-Err-Code.field-0-is) in
    let exists : c.in-Err-Code.code ≡ response_number HandleAlreadyExists = search rules in
    asked_then c.make_change.ensures.asked c.overwrite.ensures.asked (λ xs ys makes w.
    (w.0, replaced_by c.args.order.now.key c.args.order.now.name c.args.values.now xs ys w.0 (existing _ _ _ _ _ xs same is exists makes) w.1, w.2))

pub returns-clause-asked : goal.returns-clause-asked
returns-clause-asked g c =
    let same : requested_operation c.in_ok-body.body ≡ create c.args.order.now.name c.args.values.now = c.in_ok-body.ensures ∙ ap (λ h. create h c.args.values.now) c.sent.ensures.octets in
    asked_so c.in-Err.ensures.asked (λ xs makes. (false, not_replaced c.args.order.now.key c.args.order.now.name c.args.values.now c.in-Err.stop xs (makes_of _ _ _ _ xs same makes) c.in-Err.ensures.failure, c.answer_to_stop.ensures.undone))
