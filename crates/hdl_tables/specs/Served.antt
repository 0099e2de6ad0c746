-- Of which kind a table is.
use Rattle.hdl_eitherrows.specs.declared.either.EitherRows.{EitherRows}

-- the table is of the second kind, and this holds of it
abbrev pub IsSecond : {A B : Type 0} → EitherRows A B → (B → Type 0) → Type 0
IsSecond (EitherRows.First rows) P = ⊥
IsSecond (EitherRows.Second rows) P = P rows
