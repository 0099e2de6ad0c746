-- What a stream worker puts and writes, connection by connection.
use Rattle.std.specs.Prelude.{◌≡◌, ◌⊎◌, ℕ, Option, Some, None, List, [], ◌∷◌, ◌++◌, length, map, true, All}
use Rattle.std.specs.List.{flat_map, concat}
use mathlib.Core.List.{IsPrefix}
use Rattle.hdl_frame.specs.declared.envelope.FrameFault.{FrameFault}
use Rattle.hdl_frame.specs.declared.envelope.FrameFault.TheVariants.{Version, Flags, TooLong, Memory}
use Rattle.hdl_frame.specs.Frames.{IsFrame, IsCut, BeginsWithFrame, fault_at}
use Rattle.hdl_events.specs.declared.Outcome.{Outcome}
use Rattle.hdl_workers.specs.declared.item.Item.{Item}
use Rattle.hdl_workers.specs.Octets.{octets_of}
use Rattle.hdl_workers.specs.Sign.{Sign, opened, framed, faulty, closed, signs_of}
use Rattle.hdl_workers.specs.Door.{Connection}

-- a connection's start, and the frames of what was read
abbrev pub openings : List (List ℕ) → List Sign
openings frames = opened ∷ map (framed 0) frames

-- what is put of a faulty envelope: the numbers at their places in it
abbrev pub fault_sign : FrameFault → List Sign
fault_sign (Version e) = faulty e.session e.request ∷ []
fault_sign (Flags e) = faulty e.session e.request ∷ []
fault_sign (TooLong e) = faulty e.session e.request ∷ []
fault_sign Memory = []

abbrev pub fault_signs : Option FrameFault → List Sign
fault_signs None = []
fault_signs (Some fault) = fault_sign fault

-- the frames so far, and a rest that was not handed out
abbrev pub FramesSoFar : List ℕ → List ℕ → List Sign → Type 0
FramesSoFar rest read signs = (frames : List (List ℕ)) × (read ≡ concat frames ++ rest) × All IsFrame frames × (signs ≡ openings frames)

-- all frames of what was read, and the fault that stands next, if one does
abbrev pub AllFrames : List ℕ → List Sign → Type 0
AllFrames read signs =
    (frames : List (List ℕ)) × (rest : List ℕ) × (fault : Option FrameFault) × IsCut read frames rest fault × (signs ≡ openings frames ++ fault_signs fault)

-- a beginning of them: a fault comes only after all frames
abbrev pub SomeFrames : List ℕ → List Sign → Type 0
SomeFrames read signs = ((rest : List ℕ) × FramesSoFar rest read signs) ⊎ AllFrames read signs

-- a connection that was left: what was put for it, and the outcomes of that
abbrev pub Ended : Connection → List Item → List Outcome → Type 0
Ended c items outcomes =
    (signs : List Sign) × (before after : List Outcome)
    × (signs_of items ≡ signs ++ closed ∷ []) × (outcomes ≡ before ++ after) × (length outcomes ≡ length items)
    × ((AllFrames c.read signs × (c.written ≡ flat_map octets_of before) × (length after ≡ 1))
    ⊎ ((c.broken ≡ true) × SomeFrames c.read signs × IsPrefix c.written (flat_map octets_of before)))

-- the connections that were left, one after the other
abbrev pub History : List Connection → List Item → List Outcome → Type 0
History [] items outcomes = (items ≡ []) × (outcomes ≡ [])
History (c ∷ cs) items outcomes =
    (first others : List Item) × (answers later : List Outcome)
    × (items ≡ first ++ others) × (outcomes ≡ answers ++ later) × Ended c first answers × History cs others later

-- a connection is open: what was put for it, and every outcome taken was written
abbrev pub Underway : (List ℕ → List Sign → Type 0) → List Connection → Connection → List Item → List Outcome → Type 0
Underway P cs c items outcomes =
    (earlier now : List Item) × (settled answers : List Outcome)
    × (items ≡ earlier ++ now) × (outcomes ≡ settled ++ answers) × History cs earlier settled
    × (length settled ≡ length earlier) × P c.read (signs_of now) × (c.written ≡ flat_map octets_of answers)

-- the same, cut off: a beginning of what was owed was written
abbrev pub CutOff : (List ℕ → List Sign → Type 0) → List Connection → Connection → List Item → List Outcome → Type 0
CutOff P cs c items outcomes =
    (earlier now : List Item) × (settled answers : List Outcome)
    × (items ≡ earlier ++ now) × (outcomes ≡ settled ++ answers) × History cs earlier settled
    × (length settled ≡ length earlier) × P c.read (signs_of now) × IsPrefix c.written (flat_map octets_of answers)

-- what may stand of a connection that the turns cut off
abbrev pub AnyBeginning : List ℕ → List Sign → Type 0
AnyBeginning read signs =
    (signs ≡ []) ⊎ (SomeFrames read signs ⊎ ((begun : List Sign) × SomeFrames read begun × (signs ≡ begun ++ closed ∷ [])))

-- between two connections, or cut off in the last one
abbrev pub Serves : List Connection → Connection → List Item → List Outcome → Type 0
Serves cs c items outcomes = History cs items outcomes ⊎ CutOff AnyBeginning cs c items outcomes

-- nothing more can be handed out
abbrev pub Waiting : List ℕ → List ℕ → List Sign → Type 0
Waiting rest read signs = FramesSoFar rest read signs × (BeginsWithFrame rest → ⊥) × (fault_at rest ≡ None)

-- nothing is owed: the conversation is whole, or broken
abbrev pub CanClose : List Connection → Connection → List Item → List Outcome → Type 0
CanClose cs c items outcomes =
    (Underway AllFrames cs c items outcomes × (length outcomes ≡ length items))
    ⊎ ((c.broken ≡ true) × CutOff SomeFrames cs c items outcomes)
