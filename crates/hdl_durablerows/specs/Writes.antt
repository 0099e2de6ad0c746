-- The writes that the code names, as the table's writes.
use mathlib.Core.Logic.{inl, inr}
use Rattle.std.specs.Prelude.{refl, ◌≡◌, ◌⊎◌, ℕ, List}
use Rattle.std.specs.Coded.{Coded, code_by, coded×, coded⊎, coded_ℕ, coded_list}
use Rattle.hdl_name.specs.Name.{canonical}
use Rattle.hdl_value.specs.contracts.value.Value.{the_row}
use Rattle.hdl_value.specs.declared.value.Value.{Value}
use Rattle.hdl_rows.specs.Write as table
use Rattle.hdl_durablerows.specs.declared.write.Write.{Write}
use Rattle.hdl_durablerows.specs.declared.write.Write.TheVariants.{Create, Add, Modify, Remove, Delete}
use Rattle.hdl_durablerows.specs.declared.write.OwnedWrite.{OwnedWrite}
use Rattle.hdl_durablerows.specs.declared.write.OwnedWrite.TheVariants as own

-- the write that a call names
abbrev pub write_of : Write → table.Write
write_of (Create name values) = table.Create (canonical name.now) values.now
write_of (Add name values) = table.Add (canonical name.now) values.now
write_of (Modify name values) = table.Modify (canonical name.now) values.now
write_of (Remove name indexes) = table.Remove (canonical name.now) indexes.now
write_of (Delete name) = table.Delete (canonical name.now)

-- the write that is kept
abbrev pub write_in : OwnedWrite → table.Write
write_in (own.Create name values) = table.Create (canonical name) values.items
write_in (own.Add name values) = table.Add (canonical name) values.items
write_in (own.Modify name values) = table.Modify (canonical name) values.items
write_in (own.Remove name indexes) = table.Remove (canonical name) indexes.items
write_in (own.Delete name) = table.Delete (canonical name)

-- ---- a code of the table's writes

-- what a write names: its handle with values, or with indexes, or alone
abbrev pub Named : Type 0
Named = (List ℕ × List Value) ⊎ ((List ℕ × List Value) ⊎ ((List ℕ × List Value) ⊎ ((List ℕ × List ℕ) ⊎ List ℕ)))

abbrev pub named : table.Write → Named
named (table.Create h vs) = inl (h, vs)
named (table.Add h vs) = inr (inl (h, vs))
named (table.Modify h vs) = inr (inr (inl (h, vs)))
named (table.Remove h is) = inr (inr (inr (inl (h, is))))
named (table.Delete h) = inr (inr (inr (inr h)))

abbrev pub write : Named → table.Write
write (inl p) = table.Create p.0 p.1
write (inr (inl p)) = table.Add p.0 p.1
write (inr (inr (inl p))) = table.Modify p.0 p.1
write (inr (inr (inr (inl p)))) = table.Remove p.0 p.1
write (inr (inr (inr (inr h)))) = table.Delete h

pub write_named : (w : table.Write) → write (named w) ≡ w
write_named (table.Create h vs) = refl
write_named (table.Add h vs) = refl
write_named (table.Modify h vs) = refl
write_named (table.Remove h is) = refl
write_named (table.Delete h) = refl

abbrev pub with_values_code : Coded (List ℕ × List Value)
with_values_code = coded× (coded_list coded_ℕ) (coded_list the_row.coded)

abbrev pub write_code : Coded table.Write
write_code = code_by Named (coded⊎ with_values_code (coded⊎ with_values_code (coded⊎ with_values_code (coded⊎ (coded× (coded_list coded_ℕ) (coded_list coded_ℕ)) (coded_list coded_ℕ))))) named write write_named
