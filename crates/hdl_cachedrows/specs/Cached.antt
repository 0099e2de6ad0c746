-- What a contract sees of a table with a cache.
use Rattle.std.specs.Prelude.{ℕ, refl}
use Rattle.std.specs.Coded.{Coded, code_by, coded×, coded_ℕ}
use Rattle.hdl_rows.specs.Table.{Table, table_code}

-- what the table holds, how many calls were refused, what was read, what is kept costs so many octets, and the most that it may
pub record Cached : Type 0 where
  pub table : Table
  pub refused : ℕ
  pub reads : ℕ
  pub octets : ℕ
  pub limit : ℕ

abbrev pub cached_code : Coded Cached
cached_code =
    code_by (Table × (ℕ × (ℕ × (ℕ × ℕ)))) (coded× table_code (coded× coded_ℕ (coded× coded_ℕ (coded× coded_ℕ coded_ℕ))))
    (λ c. (c.table, (c.refused, (c.reads, (c.octets, c.limit))))) (λ p. record { table = p.0; refused = p.1.0; reads = p.1.1.0; octets = p.1.1.1.0; limit = p.1.1.1.1 }) (λ _. refl)
