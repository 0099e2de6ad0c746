use Rattle.std.proofs.Common.{arith}
use Rattle.hdl_peers.specs.LaneHistory.{followed_by}
use Rattle.hdl_peers.proofs.Numbers.{all_held}
use Rattle.hdl_peers.proofs.lane_history.LaneHistory.free_place.Goals as goal

pub returns-clause-few : goal.returns-clause-few
returns-clause-few c =
    let le = all_held (followed_by c.args.self.now) c.args.self.now.under_way.items c.loop-place.place c.loop-place.invariant in
    omega arith
