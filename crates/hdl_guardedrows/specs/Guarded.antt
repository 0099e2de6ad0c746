-- A table behind a guard, as contracts see it.
use Rattle.std.specs.Prelude.{refl, ℕ}
use Rattle.std.specs.Coded.{Coded, code_by, coded×, coded_ℕ}
use Rattle.hdl_rows.specs.Table.{Table, table_code}
use Rattle.hdl_rows.specs.Debt.{Debt, debt_code}

-- what the table holds, how many calls were refused by it or by the guard, what was read, and what the table owes
pub record Guarded : Type 0 where
  pub table : Table
  pub refused : ℕ
  pub reads : ℕ
  pub debt : Debt

abbrev pub guarded_code : Coded Guarded
guarded_code =
    code_by (Table × (ℕ × (ℕ × Debt))) (coded× table_code (coded× coded_ℕ (coded× coded_ℕ debt_code)))
    (λ b. (b.table, (b.refused, (b.reads, b.debt)))) (λ p. record { table = p.0; refused = p.1.0; reads = p.1.1.0; debt = p.1.1.1 }) (λ _. refl)
