-- What a change makes of a table: its write, at the moment of its event.
use Rattle.std.specs.Prelude.{ℕ, Option, Some, None, map}
use Rattle.hdl_name.specs.Name.{canonical}
use Rattle.hdl_value.specs.declared.value.Value.{Value}
use Rattle.hdl_rows.specs.Table.{Table}
use Rattle.hdl_rows.specs.Write as write
use Rattle.hdl_rows.specs.Write.{Write, CanWrite, after_write}
use Rattle.hdl_ops.specs.declared.change.Change.{Change}
use Rattle.hdl_ops.specs.declared.change.Change.TheVariants.{Create, Delete, Add, Remove, Modify}

-- the value with the moment of its write
abbrev pub with_timestamp : ℕ → Value → Value
with_timestamp moment v = record v { timestamp = moment }

-- the write of a change, its values as they are
abbrev pub write_of : Change → Write
write_of (Create name values) = write.Create (canonical name) values
write_of (Delete name) = write.Delete (canonical name)
write_of (Add name values) = write.Add (canonical name) values
write_of (Remove name is) = write.Remove (canonical name) is
write_of (Modify name values) = write.Modify (canonical name) values

-- the write with each value stamped
abbrev pub stamped_write : ℕ → Write → Write
stamped_write moment (write.Create h vs) = write.Create h (map (with_timestamp moment) vs)
stamped_write moment (write.Delete h) = write.Delete h
stamped_write moment (write.Add h vs) = write.Add h (map (with_timestamp moment) vs)
stamped_write moment (write.Remove h is) = write.Remove h is
stamped_write moment (write.Modify h vs) = write.Modify h (map (with_timestamp moment) vs)

-- the table after a change at the moment
abbrev pub apply : Table → ℕ → Change → Table
apply t moment change = after_write t (stamped_write moment (write_of change))

abbrev pub apply_if : Table → ℕ → Option Change → Table
apply_if t moment None = t
apply_if t moment (Some change) = apply t moment change

-- what a change asks of the table
abbrev pub CanApply : Table → Change → Type 0
CanApply t change = CanWrite t (write_of change)
