use Rattle.std.proofs.Common.{◌≡◌, inl, refl}
use Rattle.hdl_msg.specs.Message.{resolution}
use Rattle.hdl_msg.specs.RequestBody.{requested_operation}
use Rattle.hdl_rest.proofs.Ones.{tried_of}
use Rattle.hdl_rest.proofs.Sendings.{asked_nothing}
use Rattle.hdl_rest.proofs.asking.ask_to_read.Goals as goal

pub returns-in-Err-clause-asked : goal.returns-in-Err-clause-asked
returns-in-Err-clause-asked g c = asked_nothing (inl (refl, refl))

pub returns-in-Ok-clause-asked : goal.returns-in-Ok-clause-asked
returns-in-Ok-clause-asked g c =
    let operation = resolution c.args.order.now.name c.args.indexes.now c.args.types.now in
    let same : requested_operation c.in-Ok.body ≡ operation = cc (c.in-Ok.ensures, c.sent.ensures.octets) in
    tried_of c.args.order.now.key (requested_operation c.in-Ok.body) operation _ same c.reply_to.ensures.asked
