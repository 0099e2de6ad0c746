use Rattle.std.proofs.Common.{refl}
use Rattle.hdl_value.specs.declared.wire.Wire.TheVariants.{Profile}
use Rattle.hdl_msg.specs.RequestBody.{request_read}
use Rattle.hdl_proxy.proofs.question.public_message.Goals as goal

pub returns-clause-asks : goal.returns-clause-asks
returns-clause-asks c =
    (request_read Profile c.public_header.result c.args.body.now, (c.in_ok-message.ensures.spelt, c.public_header.ensures, refl))
