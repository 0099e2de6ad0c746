-- What a line says.
use Rattle.std.specs.Prelude.{ℕ, List, Result, Ok, Err, ok_or}
use Rattle.hdl_history.specs.declared.entry.Entry.{Entry}
use Rattle.hdl_history.specs.declared.fault.EntryFault.{EntryFault}
use Rattle.hdl_history.specs.declared.fault.EntryFault.TheVariants as fault
use Rattle.hdl_history.specs.Fields.{moment_at, operation_at, handle_at, author_at, first_field, indexes_in, before_in}

-- what follows a step, or the fault of the step
infixl 10 ◌>>=◌
abbrev pub ◌>>=◌ : {A B : Type 0} → Result A EntryFault → (A → Result B EntryFault) → Result B EntryFault
Ok x >>= f = f x
Err e >>= f = Err e

-- the entry that a line says, or the first field that is wrong
unfoldable pub entry_in : List ℕ → Result Entry EntryFault
entry_in line = do
  m ← ok_or (moment_at line) fault.Moment
  o ← ok_or (operation_at m.1) fault.Operation
  h ← ok_or (handle_at o.1) fault.Handle
  a ← ok_or (author_at h.1) fault.Author
  indexes ← ok_or (indexes_in (first_field a.1).0) fault.Indexes
  before ← ok_or (before_in (first_field a.1).1) fault.Count
  Ok (record { moment = m.0; operation = o.0; handle = h.0; author = a.0; indexes = indexes; before = before })
