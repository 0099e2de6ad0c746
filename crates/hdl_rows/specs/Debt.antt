-- What a table owes.
use Rattle.std.specs.Prelude.{refl, Bool, true, false}
use Rattle.std.specs.Coded.{Coded, code_by, coded×, coded_bool}
use Rattle.hdl_rows.specs.declared.owing.Owed.{Owed}

-- whether a table hands writes over to another thread, and whether it owes one: it was handed over, and no call has claimed it yet
pub record Debt : Type 0 where
  pub hands_over : Bool
  pub owes : Bool

-- of a table whose calls make their writes themselves
abbrev pub nothing : Debt
nothing = record { hands_over = false; owes = false }

abbrev pub is_owed : Owed → Bool
is_owed Owed.Nothing = false
is_owed Owed.UnderWay = true
is_owed Owed.Ended = true

abbrev pub debt_code : Coded Debt
debt_code = code_by (Bool × Bool) (coded× coded_bool coded_bool) (λ d. (d.hands_over, d.owes)) (λ p. record { hands_over = p.0; owes = p.1 }) (λ _. refl)
