-- The write that stands between a table in memory and its file.
use Rattle.std.specs.Prelude.{◌≡◌, ◌⊎◌, Bool, true, false, Option, None, Some, Result, Ok, Err}
use Rattle.hdl_rows.specs.Table.{Table, IsPlaced}
use Rattle.hdl_rows.specs.Write.{Write, CanWrite, after_write}
use Rattle.hdl_durablerows.specs.Inverse.{IsUndo}
use Rattle.hdl_durablerows.specs.Durable.{Standing, Keeps, Makes, Doubts, Durable}
use Rattle.hdl_durablerows.specs.Writes.{write_in}
use Rattle.hdl_durablerows.specs.declared.pending.Pending.{Pending}
use Rattle.hdl_durablerows.specs.declared.pending.Pending.TheVariants.{Nothing, Begun, Ahead, Undoing, Unknown, UndoUnknown}

-- the write that the file may have and memory hasn't
abbrev pub owed_by : Pending → Option Write
owed_by Nothing = None
owed_by (Begun own) = Some (write_in own)
owed_by (Ahead own) = Some (write_in own)
owed_by (Undoing own undo) = Some (write_in own)
owed_by (Unknown own) = Some (write_in own)
owed_by (UndoUnknown own undo) = Some (write_in own)

-- nobody can tell what the file has
abbrev pub is_unknown : Pending → Bool
is_unknown Nothing = false
is_unknown (Begun own) = false
is_unknown (Ahead own) = false
is_unknown (Undoing own undo) = false
is_unknown (Unknown own) = true
is_unknown (UndoUnknown own undo) = true

-- the write that the file has and memory hasn't, where that is known
abbrev pub ahead_by : Pending → Option Write
ahead_by Nothing = None
ahead_by (Begun own) = None
ahead_by (Ahead own) = Some (write_in own)
ahead_by (Undoing own undo) = None
ahead_by (Unknown own) = None
ahead_by (UndoUnknown own undo) = None

-- what is known of the file, beside this table in memory
abbrev pub standing : Table → Pending → Standing
standing t Nothing = Keeps t
standing t (Begun own) = Makes t (write_in own)
standing t (Ahead own) = Keeps (after_write t (write_in own))
standing t (Undoing own undo) = Makes (after_write t (write_in own)) (write_in undo)
standing t (Unknown own) = Doubts t (write_in own)
standing t (UndoUnknown own undo) = Doubts (after_write t (write_in own)) (write_in undo)

-- the table in memory allows the write, and the write that undoes it is such a one
abbrev pub IsAllowed : Table → Pending → Type 0
IsAllowed t Nothing = Unit {0}
IsAllowed t (Begun own) = CanWrite t (write_in own)
IsAllowed t (Ahead own) = CanWrite t (write_in own)
IsAllowed t (Undoing own undo) = CanWrite t (write_in own) × IsUndo t (write_in own) (write_in undo)
IsAllowed t (Unknown own) = Unit {0}
IsAllowed t (UndoUnknown own undo) = IsUndo t (write_in own) (write_in undo)

-- The file stands beside the table in memory as the pending write says, by what is known of the file.
pub record IsBacking (stands : Standing → Type 0) (t : Table) (p : Pending) : Type 0 where
  pub placed : IsPlaced t
  pub allowed : IsAllowed t p
  pub file : stands (standing t p)

-- The file stands beside the table as this pending write says: it is the one that is owed, and says whether the table is shut.
pub record StandsBy {F : Type 0} (stands : F → Standing → Type 0) (l : Durable F) : Type 0 where
  pub pending : Pending
  pub owed : l.owed ≡ owed_by pending
  pub shut : l.is_shut ≡ is_unknown pending
  pub backing : IsBacking (stands l.file) l.table pending

-- what is owed behind a call that was refused: what was before, or no write, or the write of the call
abbrev pub OwesAtMost : Option Write → Write → Option Write → Type 0
OwesAtMost old w new = (new ≡ old) ⊎ ((new ≡ None) ⊎ (new ≡ Some w))

-- what is owed behind a call of this write: no write where it is done
abbrev pub OwesAfter : {X E : Type 0} → Result X E → Option Write → Write → Option Write → Type 0
OwesAfter (Ok x) old w new = new ≡ None
OwesAfter (Err e) old w new = OwesAtMost old w new
