-- The laws of `src/laws.rt`.
use Rattle.std.specs.Prelude.{◌≡◌, ℕ, List, [], ◌++◌, length, Option, Some}
use mathlib.Core.List.{IsPrefix}
use Rattle.hdl_frame.specs.declared.envelope.Envelope.{Envelope}
use Rattle.hdl_frame.specs.declared.envelope.FrameFault.{FrameFault}
use Rattle.hdl_frame.specs.Envelope.{Fits, envelope_octets}
use Rattle.hdl_frame.specs.Frames.{BeginsWithFrame, IsCut}
use Rattle.hdl_frame.specs.Pieces.{datagrams}
use Rattle.hdl_overflow_lane.specs.Joining.{said_by}
use Rattle.slab.specs.Slab.{Slab, get}
use Rattle.hdl_overflow_lane.specs.declared.entry.ConnectionEntry.{ConnectionEntry}
use Rattle.hdl_overflow_lane.specs.Run.{Move, MovesAll, steps_at, IsEmpty}
use Rattle.hdl_overflow_lane.specs.ConnectionBuffers.{Talking, Step, fresh, TakesAll, all_read, all_handed, all_said, all_written}

-- what a connection has under way is what its steps made of a new one, whatever happened to others
abbrev pub HasItsOwn : Type 0
HasItsOwn = (empty book : Slab ConnectionEntry) (moves : List Move) (place : ℕ) (e : ConnectionEntry)
    → IsEmpty empty → MovesAll empty moves book → get book place ≡ Some e → TakesAll fresh (steps_at place [] moves) e.talk

-- what was handed out is a beginning of the frames of what was read
abbrev pub HandsInOrder : Type 0
HandsInOrder = (steps : List Step) (t : Talking) (frames : List (List ℕ)) (rest : List ℕ) (fault : Option FrameFault)
    → TakesAll fresh steps t → IsCut (all_read steps) frames rest fault → IsPrefix (all_handed steps) frames

-- and where no whole frame is left it is all of them
abbrev pub HandsAll : Type 0
HandsAll = (steps : List Step) (t : Talking) (frames : List (List ℕ)) (rest : List ℕ) (fault : Option FrameFault)
    → TakesAll fresh steps t → (BeginsWithFrame t.rest → ⊥) → IsCut (all_read steps) frames rest fault → all_handed steps ≡ frames

-- what was written is a beginning of what was said, of which the rest is owed
abbrev pub WritesInOrder : Type 0
WritesInOrder = (steps : List Step) (t : Talking) → TakesAll fresh steps t → all_said steps ≡ all_written steps ++ t.owed

-- the datagrams of a reply, whose envelope has no flag and no number, say the reply
abbrev pub SaysReply : Type 0
SaysReply = (e : Envelope) (message : List ℕ) → Fits e → e.flags ≡ 0 → e.sequence ≡ 0 → length message ≡ e.length
    → said_by (datagrams e message) ≡ envelope_octets e ++ message
