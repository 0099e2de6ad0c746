-- Since when a connection keeps others waiting.
use Rattle.std.specs.Prelude.{ℕ, ◌-◌, Bool, false, ◌||◌, nat_lt, if◌then◌else◌, Option, Some, None, is_some}
use Rattle.hdl_overflow_lane.specs.declared.timing.TheConstants.{WAIT_MAX_MILLIS}
use Rattle.hdl_overflow_lane.specs.declared.timing.Timing.{Timing}

-- a connection that came at this moment
abbrev pub at_first : ℕ → Timing
at_first now = record { silent = now; begun = None; untaken = None }

-- the moment of what began before, or this one
abbrev pub since_first : Option ℕ → ℕ → Option ℕ
since_first None now = Some now
since_first (Some moment) now = Some moment

-- ---- what becomes of it

-- octets came
abbrev pub after_octets : ℕ → Timing → Timing
after_octets now p = record p { silent = now }

-- a frame was handed out, or none was
abbrev pub after_frame : {X : Type 0} → Option X → Timing → Timing
after_frame None p = p
after_frame (Some x) p = record p { begun = None }

-- no more octets are there: where a frame is begun its rest is waited for
abbrev pub after_reading : Bool → ℕ → Timing → Timing
after_reading is_begun now p = if is_begun then record p { begun = since_first p.begun now } else p

-- so many octets were written of so many that were owed: some, or all
abbrev pub after_writing : ℕ → ℕ → ℕ → Timing → Timing
after_writing owed count now p = if nat_lt count owed then record p { untaken = Some now } else record p { silent = now; untaken = None }

-- nothing more of what is owed is taken
abbrev pub after_refusal : ℕ → Timing → Timing
after_refusal now p = record p { untaken = since_first p.untaken now }

-- ---- what it says

-- what began, if anything did, is waited for longer than may be
abbrev pub has_lasted : Option ℕ → ℕ → Bool
has_lasted None now = false
has_lasted (Some moment) now = nat_lt WAIT_MAX_MILLIS (now - moment)

-- the rest of its frame is waited for, or an answer isn't taken
abbrev pub keeps_waiting : Timing → Bool
keeps_waiting p = is_some p.begun || is_some p.untaken

-- the rest of its frame, or its taking some of an answer, was waited for longer than may be
abbrev pub is_late : Timing → ℕ → Bool
is_late p now = has_lasted p.begun now || has_lasted p.untaken now

-- since when it is silent, unless it has an answer to take
abbrev pub silent_unless : Option ℕ → ℕ → Option ℕ
silent_unless None moment = Some moment
silent_unless (Some untaken) moment = None

abbrev pub silent_since : Timing → Option ℕ
silent_since p = silent_unless p.untaken p.silent
