-- What a trail follows.
use Rattle.hdl_peers.specs.declared.lane_history.LaneHistory.{LaneHistory}
use Rattle.hdl_peers.specs.Followed.{Followed}

abbrev pub followed_by : LaneHistory → Followed
followed_by t = record { partials = t.partials.items; challenges = t.challenges.items }
