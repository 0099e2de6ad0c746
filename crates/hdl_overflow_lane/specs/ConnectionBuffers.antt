-- What a connection has under way, and what happens on it.
use Rattle.std.specs.Prelude.{◌≡◌, ◌⊎◌, ℕ, Bool, true, ◌&&◌, ◌==◌, nat_lt, length, List, [], ◌∷◌, ◌++◌, Option, Some, None, is_some}
use Rattle.std.specs.List.{flat_map}
use Rattle.hdl_frame.specs.declared.envelope.FrameFault.{FrameFault}
use Rattle.hdl_frame.specs.declared.envelope.FrameFault.TheVariants.{Version, Flags, TooLong, Memory}
use Rattle.hdl_frame.specs.Frames.{IsFrame, BeginsWithFrame, fault_at}
use Rattle.hdl_msg.specs.Codes.{response_number}
use Rattle.hdl_msg.specs.declared.codes.ResponseCode.TheVariants.{ProtocolError}
use Rattle.hdl_msg.specs.Reply.{short_reply}

-- what was read and not handed out, the fault that was told of it, and what is owed: said and not written
pub record Talking : Type 0 where
  pub rest : List ℕ
  pub fault : Option FrameFault
  pub owed : List ℕ

-- a connection on which nothing happened yet
abbrev pub fresh : Talking
fresh = record { rest = []; fault = None; owed = [] }

-- a part of a frame stands next, or the fault that was told
abbrev pub is_begun : Talking → Bool
is_begun t = nat_lt 0 (length t.rest)

-- a fault was told, and all that was said is written
abbrev pub is_over : Talking → Bool
is_over t = is_some t.fault && length t.owed == 0

-- nothing is left to hand out or to tell: a fault was told, or neither a frame nor a fault stands next
abbrev pub HasNothing : Talking → Type 0
HasNothing t = (is_some t.fault ≡ true) ⊎ ((¬ BeginsWithFrame t.rest) × (fault_at t.rest ≡ None))

-- octets are read, the frame that stands next is handed out, the fault that stands next is told, octets are said to the client, or written
pub data Step : Type 0 where
  reads : List ℕ → Step
  hands : List ℕ → Step
  is_observed : FrameFault → Step
  says : List ℕ → Step
  writes : List ℕ → Step

-- what a step does
abbrev pub Takes : Talking → Step → Talking → Type 0
Takes t (reads octets) u = (t.fault ≡ None) × (u ≡ record { rest = t.rest ++ octets; fault = None; owed = t.owed })
Takes t (hands frame) u = IsFrame frame × (t.rest ≡ frame ++ u.rest) × (t.fault ≡ None) × (u.fault ≡ None) × (u.owed ≡ t.owed)
Takes t (is_observed fault) u = (fault_at t.rest ≡ Some fault) × (u ≡ record { rest = t.rest; fault = Some fault; owed = t.owed })
Takes t (says octets) u = u ≡ record { rest = t.rest; fault = t.fault; owed = t.owed ++ octets }
Takes t (writes octets) u = (t.owed ≡ octets ++ u.owed) × (u.rest ≡ t.rest) × (u.fault ≡ t.fault)

-- what is said of a faulty envelope: ProtocolError, under its numbers
abbrev pub refusal_of : FrameFault → List ℕ
refusal_of (Version e) = short_reply (response_number ProtocolError) e
refusal_of (Flags e) = short_reply (response_number ProtocolError) e
refusal_of (TooLong e) = short_reply (response_number ProtocolError) e
refusal_of Memory = []

-- the fault that stands next is told, and refused
abbrev pub TurnsAway : Talking → Talking → Type 0
TurnsAway t u = (fault : FrameFault) × (v : Talking) × Takes t (is_observed fault) v × Takes v (says (refusal_of fault)) u

-- no frame is handed out: where nothing is left nothing happens, else the fault that stands next is told and refused, once
abbrev pub Pauses : Talking → Talking → Type 0
Pauses t u = (HasNothing t × (u ≡ t)) ⊎ ((t.fault ≡ None) × TurnsAway t u)

-- steps one after the other
abbrev pub TakesAll : Talking → List Step → Talking → Type 0
TakesAll t [] u = u ≡ t
TakesAll t (s ∷ ss) u = (v : Talking) × Takes t s v × TakesAll v ss u

-- the octets that a step reads, the frames that it hands out, the octets that it says, and those that it writes
abbrev pub read_in : Step → List ℕ
read_in (reads octets) = octets
read_in (hands frame) = []
read_in (is_observed fault) = []
read_in (says octets) = []
read_in (writes octets) = []

abbrev pub handed_in : Step → List (List ℕ)
handed_in (reads octets) = []
handed_in (hands frame) = frame ∷ []
handed_in (is_observed fault) = []
handed_in (says octets) = []
handed_in (writes octets) = []

abbrev pub said_in : Step → List ℕ
said_in (reads octets) = []
said_in (hands frame) = []
said_in (is_observed fault) = []
said_in (says octets) = octets
said_in (writes octets) = []

abbrev pub written_in : Step → List ℕ
written_in (reads octets) = []
written_in (hands frame) = []
written_in (is_observed fault) = []
written_in (says octets) = []
written_in (writes octets) = octets

abbrev pub all_read : List Step → List ℕ
all_read steps = flat_map read_in steps

abbrev pub all_handed : List Step → List (List ℕ)
all_handed steps = flat_map handed_in steps

abbrev pub all_said : List Step → List ℕ
all_said steps = flat_map said_in steps

abbrev pub all_written : List Step → List ℕ
all_written steps = flat_map written_in steps
