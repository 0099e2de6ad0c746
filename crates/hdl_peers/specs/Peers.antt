-- The addresses of a datagram lane's peers, and their numbers.
use Rattle.std.specs.Prelude.{ℕ, zero, suc, Bool, ◌==◌, ◌||◌, nat_lt, if◌then◌else◌, List, [], ◌∷◌, length, drop, Option, Some, None, MatchOption, slice_get, IsTrue}
use Rattle.std.specs.List.{list_any}
use Rattle.hdl_limits.specs.declared.TheConstants.{UNDER_WAY_MAX}
use Rattle.hdl_frame.specs.Envelope.{envelope_at}
use Rattle.hdl_peers.specs.declared.exchange.Exchange.{Exchange}
use Rattle.hdl_peers.specs.Exchange.{exchange_of, with_reply}
use Rattle.hdl_peers.specs.Followed.{Followed, is_held, finish_exchange}

-- the addresses, that with number 1 first; what is followed under their numbers; and the frames under way, whose replies aren't whole, the oldest first
pub record Roll (A : Type 0) : Type 0 where
  pub known : List A
  pub followed : Followed
  pub under_way : List Exchange

-- the oldest of them, with what was seen of its reply
abbrev pub oldest : List Exchange → Option Exchange
oldest [] = None
oldest (e ∷ es) = Some e

-- a datagram of the reply to the oldest is seen
abbrev pub reply_seen : List ℕ → List Exchange → List Exchange
reply_seen datagram [] = []
reply_seen datagram (e ∷ es) = with_reply datagram e ∷ es

-- one of them came under the number
abbrev pub is_under_way : List Exchange → ℕ → Bool
is_under_way es number = list_any (λ e. e.key.number == number) es

-- octets that came from the peer with this number
abbrev pub arrival : List ℕ → ℕ → Exchange
arrival octets number = exchange_of number (envelope_at octets) octets

module _ {A : Type 0} where
  -- the address that has this number
  abbrev pub address_among : List A → ℕ → Option A
  address_among known zero = None
  address_among known (suc n) = slice_get known n

  -- the address that has this number is equal to this one
  abbrev pub IsNumberOf : (A → A → Bool) → List A → A → ℕ → Type 0
  IsNumberOf equal known address n = MatchOption (address_among known n) ⊥ (λ a. IsTrue (equal a address))

  -- something is kept under the number, or a frame of it is under way
  abbrev pub holds : Roll A → ℕ → Bool
  holds r n = is_held r.followed n || is_under_way r.under_way n

  -- what was seen of the reply to the oldest frame is all of it
  abbrev pub finish_oldest : Roll A → Roll A
  finish_oldest r = record { known = r.known; followed = finish_exchange r.followed (oldest r.under_way); under_way = drop 1 r.under_way }

  -- with room for one frame more
  abbrev pub with_room : Roll A → Roll A
  with_room r = if nat_lt (length r.under_way) UNDER_WAY_MAX then r else finish_oldest r
