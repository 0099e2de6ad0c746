use Rattle.std.proofs.Common.{◌≡◌, false, refl, rules}
use Rattle.hdl_msg.specs.Message.{remove}
use Rattle.hdl_msg.specs.RequestBody.{requested_operation}
use Rattle.hdl_rest.proofs.Ones.{carried_of}
use Rattle.hdl_rest.proofs.Sendings.{asked_nothing}
use Rattle.hdl_rest.proofs.carry.carry_remove.Goals as goal

pub returns-in_err-body-clause-asked : goal.returns-in_err-body-clause-asked
returns-in_err-body-clause-asked g c = asked_nothing (false, (0, refl, refl), search rules)

pub returns-clause-asked : goal.returns-clause-asked
returns-clause-asked g c =
    let same : requested_operation c.in_ok-body.body ≡ remove c.args.order.now.name c.args.indexes.now = cc (c.in_ok-body.ensures, c.sent.ensures.octets) in
    carried_of c.args.order.now.key (requested_operation c.in_ok-body.body) (remove c.args.order.now.name c.args.indexes.now) c.carry_one.result same c.carry_one.ensures.asked
