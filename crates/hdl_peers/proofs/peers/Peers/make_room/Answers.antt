use Rattle.std.proofs.Common.{length, ap, ◌∙◌, arith}
use Rattle.std.proofs.lemmas.List.{length-drop}
use Rattle.hdl_peers.proofs.peers.Peers.make_room.Goals as goal

pub returns-then-is_full-clause-room : goal.returns-then-is_full-clause-room
returns-then-is_full-clause-room g c =
    let left = ap length c.finish_oldest.ensures.under_way ∙ length-drop 1 c.self.inside.lane_history.under_way.items in
    omega (arith, c.is_full.ensures.few)
