-- What one of two tables holds.
use Rattle.hdl_eitherrows.specs.declared.either.EitherRows.{EitherRows}

-- what is said of the table that is there: by the first function of the first kind, by the second of the second
abbrev pub said_of : {A B X : Type 0} → (A → X) → (B → X) → EitherRows A B → X
said_of first second (EitherRows.First rows) = first rows
said_of first second (EitherRows.Second rows) = second rows
