-- The trail of a datagram lane has the keys of what the service keeps of the lane.
use Rattle.std.specs.Prelude.{◌≡◌, ℕ, Bool, ◌==◌, ◌||◌, ◌<◌, ◌≤◌, ◌^◌, min, List, [], ◌∷◌, ◌++◌, length, map, drop, Some, IsTrue, IfSome}
use Rattle.std.specs.List.{AllByRecursion, list_any}
use Rattle.std.specs.Option.{option_and_then, option_map_or}
use Rattle.hdl_limits.specs.declared.TheConstants.{CHALLENGES_MAX, PIECE_LEN}
use Rattle.hdl_frame.specs.Envelope.{envelope_at}
use Rattle.hdl_frame.specs.Pieces.{datagrams, piece_count}
use Rattle.hdl_value.specs.declared.wire.Wire.{Wire}
use Rattle.hdl_msg.specs.Message.{Content, SpellsRequest}
use Rattle.hdl_pool.specs.Partial.{Partial, payload_at}
use Rattle.hdl_slots.specs.declared.pending.Challenge.{Challenge}
use Rattle.hdl_events.specs.declared.Outcome.{Outcome}
use Rattle.hdl_laws.specs.Lanes.{LaneState}
use Rattle.hdl_laws.specs.Reveals.{sent_by}
use Rattle.hdl_peers.specs.declared.kept.Mark.{Mark}
use Rattle.hdl_peers.specs.declared.kept.SentChallenge.{SentChallenge}
use Rattle.hdl_peers.specs.declared.exchange.Exchange.{Exchange}
use Rattle.hdl_peers.specs.Exchange.{number_at, with_reply}
use Rattle.hdl_peers.specs.Followed.{Followed, finish_exchange}

-- ---- the relation

-- a message of which pieces are kept, by its key and length, and the operation, which stands first in its front
abbrev pub mark_of : Partial → Mark
mark_of p = record {
  key = record { number = p.key.peer; session = p.key.session; request = p.key.request };
  length = p.length;
  operation = option_and_then (λ payload. number_at payload 0) (payload_at p 0);
}

-- a pending challenge, by whom it was sent to, and its number, which is its SessionId
abbrev pub sent_of : Challenge → SentChallenge
sent_of c = record { number = c.pending.peer; session = c.number }

-- the trail has the keys of what the lane keeps, the oldest first
pub record Follows (f : Followed) (s : LaneState) : Type 0 where
  pub partials : f.partials ≡ map mark_of s.partials
  pub challenges : f.challenges ≡ map sent_of s.challenges.challenges

-- the lane keeps pieces of a message, or a challenge, under the number
abbrev pub keeps : LaneState → ℕ → Bool
keeps s number = list_any (λ p. p.key.peer == number) s.partials || list_any (λ c. c.pending.peer == number) s.challenges.challenges

-- ---- what is true of a lane that was opened and got frames since

-- the challenged message can be read by this layout
abbrev pub CanBeRead : Wire → Challenge → Type 0
CanBeRead wire c = (r : Content) × SpellsRequest wire c.pending.message r

-- it has a place for each of its pieces, and its front, where that came, is a whole piece's
pub record IsPartial (p : Partial) : Type 0 where
  pub places : length p.pieces ≡ piece_count p.length
  pub front : IfSome (payload_at p 0) (λ payload. length payload ≡ min PIECE_LEN p.length)

-- it is open, its next number fits four octets, and it keeps the limit of challenges, each of which can be read by its layout
pub record IsInUse (wire : Wire) (s : LaneState) : Type 0 where
  pub is_open : IsTrue s.is_open
  pub partials : AllByRecursion IsPartial s.partials
  pub next : s.challenges.next < 2 ^ 32
  pub few : length s.challenges.challenges ≤ CHALLENGES_MAX
  pub challenges : AllByRecursion (CanBeRead wire) s.challenges.challenges

-- ---- what is sent

-- the datagrams of octets that are a reply
abbrev pub datagrams_of : List ℕ → List (List ℕ)
datagrams_of octets = map (λ d. d.0 ++ d.1) (datagrams (envelope_at octets) (drop 20 octets))

-- those of an outcome; none where nothing is sent
abbrev pub outcome_datagrams : Outcome → List (List ℕ)
outcome_datagrams o = option_map_or datagrams_of (sent_by o) []

-- the frame and its reply, of which each of these datagrams is seen
abbrev pub answered_by : List (List ℕ) → Exchange → Exchange
answered_by [] e = e
answered_by (d ∷ ds) e = answered_by ds (with_reply d e)

-- what is followed once these frames are settled in their order, each with what its reply says
abbrev pub finish_all : Followed → List Exchange → Followed
finish_all f [] = f
finish_all f (e ∷ es) = finish_all (finish_exchange f (Some e)) es
