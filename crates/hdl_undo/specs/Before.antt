-- The values before a change, as the lines of the history say them.
use Rattle.std.specs.Prelude.{◌≡◌, ◌⊎◌, ℕ, List, map, Contains, Ok, unwrap_or}
use Rattle.hdl_value.specs.declared.value.Value.{Value}
use Rattle.hdl_value.specs.Reading.{◌>>=◌}
use Rattle.hdl_value_lines.specs.Fields.{space, cut_at, number_in}
use Rattle.hdl_value_lines.specs.Lines.{value_in, IsFaultIn}
use Rattle.hdl_value_lines.specs.declared.fault.LineFault.{LineFault}
use Rattle.hdl_value_lines.specs.declared.fault.LineFault.TheVariants as line_fault
use Rattle.hdl_history.specs.declared.entry.ValuesBefore.{ValuesBefore}
use Rattle.hdl_history.specs.declared.entry.ValuesBefore.TheVariants as before
use Rattle.hdl_undo.specs.declared.fault.UndoFault.{UndoFault}
use Rattle.hdl_undo.specs.declared.fault.UndoFault.TheVariants as fault

-- each line says the value at its place
abbrev pub AreRead : List (List ℕ) → List Value → Type 0
AreRead lines vs = map value_in lines ≡ map Ok vs

abbrev pub SaysValues : ValuesBefore → List Value → Type 0
SaysValues (before.Lines lines) vs = AreRead lines vs
SaysValues (before.LeftOut count) vs = ⊥

-- the number that a line begins with, or 0
abbrev pub index_of : List ℕ → ℕ
index_of line = unwrap_or (cut_at space line >>= λ x. number_in x.0) 0

-- the line says no sound value: its data is hidden, or it has this fault
abbrev pub IsUnread : UndoFault → List ℕ → Type 0
IsUnread e line = ((e ≡ fault.HiddenKey (index_of line)) × IsFaultIn (value_in line) line_fault.Hidden) ⊎ ((f : LineFault) × (e ≡ fault.Unreadable f) × IsFaultIn (value_in line) f)

abbrev pub IsWhyUnread : List (List ℕ) → UndoFault → Type 0
IsWhyUnread lines e = (e ≡ fault.Memory) ⊎ ((line : List ℕ) × Contains lines line × IsUnread e line)

-- they were left out, or a line says no value
abbrev pub HasNoValues : ValuesBefore → UndoFault → Type 0
HasNoValues (before.Lines lines) e = IsWhyUnread lines e
HasNoValues (before.LeftOut count) e = e ≡ fault.LeftOut count
