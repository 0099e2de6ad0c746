use Rattle.std.proofs.Common.{◌∙◌, sym}
use Rattle.hdl_ops.proofs.Lengths.{asked_room}
use Rattle.hdl_ops.proofs.rendering.digest_room.Goals as goal

pub returns-then-wants_digest-clause-room : goal.returns-then-wants_digest-clause-room
returns-then-wants_digest-clause-room c = rw c.size.ensures (asked_room c.args.asked.now.algorithm c.args.asked.now.request.now (sym c.wants_digest.ensures ∙ c.if-wants_digest.true))
