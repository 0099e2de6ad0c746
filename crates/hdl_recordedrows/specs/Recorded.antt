-- A table whose changes are recorded, as contracts see it, and what its history hears.
use Rattle.std.specs.Prelude.{refl, ◌≡◌, ◌++◌, ◌∷◌, [], ℕ, List, Bool, true, false, IsTrue, IsFalse}
use Rattle.std.specs.Coded.{Coded, code_by, coded×, coded_ℕ}
use Rattle.hdl_name.specs.Name.{canonical}
use Rattle.hdl_name.specs.declared.name.Name.{Name}
use Rattle.hdl_value.specs.declared.value.Value.{Value}
use Rattle.hdl_rows.specs.Table.{Table, table_code}
use Rattle.hdl_rows.specs.Write as table
use Rattle.hdl_rows.specs.Debt.{Debt, debt_code}
use Rattle.hdl_rows.specs.declared.provenance.Agent.{Agent}
use Rattle.hdl_rows.specs.declared.provenance.Agent.TheVariants.{Opening, Anyone, Key, Server}
use Rattle.hdl_rows.specs.declared.provenance.Provenance.{Provenance}
use Rattle.hdl_recordedrows.specs.declared.history.DoneWrite.{DoneWrite}
use Rattle.hdl_recordedrows.specs.declared.history.DoneWrite.TheVariants as done
use Rattle.hdl_recordedrows.specs.declared.history.DoneChange.{DoneChange}

-- what the table holds, how many calls were refused, what was read by its callers, what the table owes, and its history
pub record Recorded (H : Type 0) : Type 0 where
  pub table : Table
  pub refused : ℕ
  pub reads : ℕ
  pub debt : Debt
  pub history : H

abbrev pub recorded_code : {H : Type 0} → Coded H → Coded (Recorded H)
recorded_code {H} history =
    code_by (Table × (ℕ × (ℕ × (Debt × H)))) (coded× table_code (coded× coded_ℕ (coded× coded_ℕ (coded× debt_code history))))
    (λ b. (b.table, (b.refused, (b.reads, (b.debt, b.history))))) (λ p. record { table = p.0; refused = p.1.0; reads = p.1.1.0; debt = p.1.1.1.0; history = p.1.1.1.1 }) (λ _. refl)

-- ---- what a history hears

-- a write that was done, the values before it, its moment, and who asked for it
pub record Told : Type 0 where
  pub write : table.Write
  pub before : List Value
  pub moment : ℕ
  pub agent : Agent

-- the write of the table that a change is
abbrev pub write_of : List ℕ → DoneWrite → table.Write
write_of h (done.Create vs) = table.Create h vs.now
write_of h (done.Add vs) = table.Add h vs.now
write_of h (done.Modify vs) = table.Modify h vs.now
write_of h (done.Remove is) = table.Remove h is.now
write_of h done.Delete = table.Delete h

abbrev pub told_of : DoneChange → Told
told_of c = record { write = write_of (canonical c.name.now) c.write; before = c.before.now; moment = c.provenance.now.moment; agent = c.provenance.now.agent }

-- whether a client asked for it: what opens the table is no change, and another server has its own history
abbrev pub is_clients : Agent → Bool
is_clients Opening = false
is_clients Anyone = true
is_clients (Key h i) = true
is_clients Server = false

-- of a write that was done, a history hears just if a client asked for it
abbrev pub Hears : Provenance → Told → List Told → List Told → Type 0
Hears p one old new = (IsTrue (is_clients p.agent) → new ≡ old ++ one ∷ []) × (IsFalse (is_clients p.agent) → new ≡ old)

-- what it hears of this write with the values before it
abbrev pub told_by : Provenance → table.Write → List Value → Told
told_by p w before = record { write = w; before = before; moment = p.moment; agent = p.agent }
