use Rattle.std.proofs.Common.{◌≡◌, ℕ, ◌+◌, ◌<◌, ◌||◌, true}
use Rattle.hdl_peers.specs.Followed.{is_held}
use Rattle.hdl_peers.specs.Peers.{is_under_way}
use Rattle.hdl_peers.specs.LaneHistory.{followed_by}
use Rattle.hdl_peers.proofs.lane_history.LaneHistory.free_place.Given as goal

abbrev pub invariant-loop-place : goal.invariant-loop-place
invariant-loop-place l = (k : ℕ) → k < l.place → is_held (followed_by l.self) (k + 1) || is_under_way l.self.under_way.items (k + 1) ≡ true
