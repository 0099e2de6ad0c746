-- The laws of `src/laws.rt`.
use Rattle.std.specs.Prelude.{◌≡◌, ◌≢◌, ℕ, ◌||◌, List, [], Some, None, true, IsTrue}
use Rattle.hdl_frame.specs.Frames.{IsFrame}
use Rattle.hdl_value.specs.declared.wire.Wire.{Wire}
use Rattle.hdl_events.specs.declared.What.{What}
use Rattle.hdl_events.specs.declared.Outcome.{Outcome}
use Rattle.hdl_laws.specs.Lanes.{LaneState, fresh}
use Rattle.hdl_laws.specs.Worlds.{World, owner, lane_of, lane_profile_for}
use Rattle.hdl_laws.specs.Runs.{HasStep}
use Rattle.hdl_peers.specs.Followed.{Followed, is_held, finish_exchange}
use Rattle.hdl_peers.specs.declared.exchange.Exchange.{Exchange}
use Rattle.hdl_peers.specs.Peers.{arrival, is_under_way}
use Rattle.hdl_peers_laws.specs.Follows.{Follows, IsInUse, answered_by, keeps, outcome_datagrams, finish_all}

-- a new trail follows a lane that was opened
pub record BeginsFollowed : Type 0 where
  pub follows : Follows (record { partials = []; challenges = [] }) (fresh true)
  pub in_use : (wire : Wire) → IsInUse wire (fresh true)

-- A frame comes on a lane in use, from the peer with this number, and the trail follows the lane. Once the outcome's datagrams
-- are seen and it is settled, the trail follows the lane as the step leaves it, which is in use again.
abbrev pub StepsFollowed : Type 0
StepsFollowed =
    (w new : World) (lane peer moment : ℕ) (nonce octets : List ℕ) (o : Outcome) (f : Followed)
    → IsFrame octets → owner w.site lane ≢ None → IsInUse (lane_profile_for w.site (owner w.site lane)).wire (lane_of w lane) → Follows f (lane_of w lane)
    → HasStep w (record { lane = lane; what = What.Frame peer moment nonce octets }) o new
    → Follows (finish_exchange f (Some (answered_by (outcome_datagrams o) (arrival octets peer)))) (lane_of new lane) × IsInUse (lane_profile_for w.site (owner w.site lane)).wire (lane_of new lane)

-- a trail that follows a lane holds the numbers under which the lane keeps something, and no others
abbrev pub HoldsWhatIsKept : Type 0
HoldsWhatIsKept = (f : Followed) (s : LaneState) (number : ℕ) → Follows f s → is_held f number ≡ keeps s number

-- Frames are under way. Whatever is replied to them, what is followed once any of them are settled stands under numbers that were held, or under which one
-- of them came.
abbrev pub HoldsWhatComes : Type 0
HoldsWhatComes = (f : Followed) (es : List Exchange) (number : ℕ) → IsTrue (is_held (finish_all f es) number) → IsTrue (is_held f number || is_under_way es number)
