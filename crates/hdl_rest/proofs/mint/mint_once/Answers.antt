use Rattle.std.proofs.Common.{◌≡◌, ◌∙◌, Some, None, true, false, ap, refl, rules}
use Rattle.std.specs.Prelude.{Ok, Err}
use Rattle.std.specs.declared.alloc.AllocError.{AllocError}
use Rattle.hdl_msg.specs.Codes.{response_number}
use Rattle.hdl_msg.specs.Message.{create}
use Rattle.hdl_msg.specs.declared.codes.ResponseCode.TheVariants.{HandleAlreadyExists}
use Rattle.hdl_rest.specs.Suffix.{with_suffix}
use Rattle.hdl_rest.specs.Sending.{says_done}
use Rattle.hdl_rest.specs.declared.stop.ChangeFault.TheVariants.{Code}
use Rattle.hdl_rest.proofs.Ones.{existed, existing, makes_of, mint_exists, mint_failed, mint_made, minted, named, nothing_minted}
use Rattle.hdl_rest.proofs.Sendings.{asked_from, asked_nothing, asked_so}
use Rattle.hdl_rest.proofs.mint.mint_once.Goals as goal

pub returns-in_err-no_name-in-Err-clause-asked : goal.returns-in_err-no_name-in-Err-clause-asked
returns-in_err-no_name-in-Err-clause-asked g c =
    asked_from {g = g.S.ChangeServer} c.draw-drawn.ensures.asked (asked_nothing (nothing_minted c.args.order.now.key c.args.order.now.name c.args.values.now c.from_residual-in_err-no_name-in-Err.result (search rules)))

pub returns-in-Err-clause-asked : goal.returns-in-Err-clause-asked
returns-in-Err-clause-asked g c =
    asked_from {g = g.S.ChangeServer} c.draw-drawn.ensures.asked (asked_nothing (nothing_minted {E = AllocError} c.args.order.now.key c.args.order.now.name c.args.values.now (Ok (Some c.in_ok-no_name-in-Err.field-0)) c.in_ok-no_name-in-Err.ensures.undone))

pub returns-in_err-body-clause-asked : goal.returns-in_err-body-clause-asked
returns-in_err-body-clause-asked g c =
    asked_from {g = g.S.ChangeServer} c.draw-drawn.ensures.asked (asked_nothing (nothing_minted c.args.order.now.key c.args.order.now.name c.args.values.now c.from_residual-in_err-body.result (search rules)))

pub returns-in-Ok-make_change-clause-asked : goal.returns-in-Ok-make_change-clause-asked
returns-in-Ok-make_change-clause-asked g c =
    let name = named c.in_ok-name.field-0 c.in-Ok.name c.deref.result.now c.in-Ok.is c.in_ok-name.ensures.name in
    let same = c.in_ok-body.ensures ∙ ap (λ h. create h c.args.values.now) (c.sent-2.ensures.octets ∙ name ∙ c.deref.ensures.value ∙ c.in_ok-octets.ensures ∙ ap (λ f. with_suffix f c.draw-drawn.result) c.sent.ensures.octets) in
    asked_from {g = g.S.ChangeServer} c.draw-drawn.ensures.asked (asked_so c.in-Ok-make_change.ensures.asked (λ xs makes.
    minted {E = AllocError} c.args.order.now.key c.args.order.now.name c.args.values.now (Ok (Some c.in_ok-success-in-Ok-make_change.field-0)) xs true
    (mint_made c.args.order.now.key c.args.order.now.name c.draw-drawn.result c.args.values.now _ xs (makes_of _ _ _ _ xs same makes)) (ap says_done c.in_ok-success-in-Ok-make_change.ensures.told.status)))

pub returns-in-Err-Code-clause-asked : goal.returns-in-Err-Code-clause-asked
returns-in-Err-Code-clause-asked g c =
    let name = named c.in_ok-name.field-0 c.in-Ok.name c.deref.result.now c.in-Ok.is c.in_ok-name.ensures.name in
    let same = c.in_ok-body.ensures ∙ ap (λ h. create h c.args.values.now) (c.sent-2.ensures.octets ∙ name ∙ c.deref.ensures.value ∙ c.in_ok-octets.ensures ∙ ap (λ f. with_suffix f c.draw-drawn.result) c.sent.ensures.octets) in
    let is : c.make_change.result ≡ Err (Code c.in-Err-Code.code) = cc (c.in-Err-Code.is, c.in-Err-Code.field-0-is) in
    let exists : c.in-Err-Code.code ≡ response_number HandleAlreadyExists = search rules in
    asked_from {g = g.S.ChangeServer} c.draw-drawn.ensures.asked (asked_so c.make_change.ensures.asked (λ xs makes.
    existed AllocError c.args.order.now.key c.args.order.now.name c.args.values.now xs (mint_exists c.args.order.now.key c.args.order.now.name c.draw-drawn.result c.args.values.now xs (existing _ _ _ _ _ xs same is exists makes))))

pub returns-in_err-answer_to_stop-in-Err-make_change-clause-asked : goal.returns-in_err-answer_to_stop-in-Err-make_change-clause-asked
returns-in_err-answer_to_stop-in-Err-make_change-clause-asked g c =
    let name = named c.in_ok-name.field-0 c.in-Ok.name c.deref.result.now c.in-Ok.is c.in_ok-name.ensures.name in
    let same = c.in_ok-body.ensures ∙ ap (λ h. create h c.args.values.now) (c.sent-2.ensures.octets ∙ name ∙ c.deref.ensures.value ∙ c.in_ok-octets.ensures ∙ ap (λ f. with_suffix f c.draw-drawn.result) c.sent.ensures.octets) in
    asked_from {g = g.S.ChangeServer} c.draw-drawn.ensures.asked (asked_so c.in-Err-make_change.ensures.asked (λ xs makes.
    minted c.args.order.now.key c.args.order.now.name c.args.values.now c.from_residual-in_err-answer_to_stop-in-Err-make_change.result xs false
    (mint_failed c.args.order.now.key c.args.order.now.name c.draw-drawn.result c.args.values.now c.in-Err-make_change.stop xs (makes_of _ _ _ _ xs same makes) c.in-Err-make_change.ensures.failure) (search rules)))

pub returns-clause-asked : goal.returns-clause-asked
returns-clause-asked g c =
    let name = named c.in_ok-name.field-0 c.in-Ok.name c.deref.result.now c.in-Ok.is c.in_ok-name.ensures.name in
    let same = c.in_ok-body.ensures ∙ ap (λ h. create h c.args.values.now) (c.sent-2.ensures.octets ∙ name ∙ c.deref.ensures.value ∙ c.in_ok-octets.ensures ∙ ap (λ f. with_suffix f c.draw-drawn.result) c.sent.ensures.octets) in
    asked_from {g = g.S.ChangeServer} c.draw-drawn.ensures.asked (asked_so c.in-Err-make_change.ensures.asked (λ xs makes.
    minted {E = AllocError} c.args.order.now.key c.args.order.now.name c.args.values.now (Ok (Some c.in_ok-answer_to_stop-in-Err-make_change.field-0)) xs false
    (mint_failed c.args.order.now.key c.args.order.now.name c.draw-drawn.result c.args.values.now c.in-Err-make_change.stop xs (makes_of _ _ _ _ xs same makes) c.in-Err-make_change.ensures.failure) c.in_ok-answer_to_stop-in-Err-make_change.ensures.undone))
