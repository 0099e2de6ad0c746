-- A file and the log beside it.
use Rattle.std.specs.Prelude.{◌≡◌, ◌⊎◌, ◌≤◌, ◌+◌, min, ℕ, Bool, true, false, None, Some, IsTrue}
use Rattle.hdl_wal_check.specs.declared.judging.Verdict.{Verdict}
use Rattle.hdl_wal_check.specs.declared.judging.Verdict.TheVariants.{Sound, Ends, Begun, Refused}
use Rattle.hdl_wal_check.specs.declared.walking.WholeLog.{WholeLog}

-- the least note of a file in use
abbrev pub first_note : ℕ
first_note = 16777216

-- the note of a file that needs its log
abbrev pub NeedsLog : ℕ → Type 0
NeedsLog n = first_note ≤ n

-- the file has a note
abbrev pub IsMarked : ℕ → Type 0
IsMarked n = (n ≡ 1) ⊎ NeedsLog n

-- The log has no change, or none that notes anything; or it has the file's note, or begins with the one behind it.
abbrev pub Belongs : ℕ → WholeLog → Type 0
Belongs n log = (log.frames ≡ 0) ⊎ ((log.first ≡ None) ⊎ (IsTrue log.has_note ⊎ (log.first ≡ Some (min (n + 1) 4294967295))))

-- the file isn't opened over its log
abbrev pub is_refused : Verdict → Bool
is_refused Sound = false
is_refused (Ends found) = false
is_refused Begun = false
is_refused (Refused fault) = true

-- nothing is to be told
abbrev pub is_sound : Verdict → Bool
is_sound Sound = true
is_sound (Ends found) = false
is_sound Begun = false
is_sound (Refused fault) = false
