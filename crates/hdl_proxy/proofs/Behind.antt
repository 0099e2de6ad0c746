-- What stands behind one of several fronts.
use Rattle.std.proofs.Common.{ℕ, List, ◌⊎◌, inl, inr, Option, Some, None, MatchOption}
use Rattle.std.specs.Borrow.{Bor}
use Rattle.hdl_proxy.specs.Pasted.{Lacks}

neither : (P Q : List ℕ → Type 0) → Lacks P → Lacks Q → Lacks (λ rest. P rest ⊎ Q rest)
neither P Q p q rest (inl h) = p rest h
neither P Q p q rest (inr h) = q rest h

pub or_behind : (P Q : List ℕ → Type 0) (o : Option (Bor (List ℕ))) → Lacks P → MatchOption o (Lacks Q) (λ rest. Q rest.now) → MatchOption o (Lacks (λ rest. P rest ⊎ Q rest)) (λ rest. P rest.now ⊎ Q rest.now)
or_behind P Q None p h = neither P Q p h
or_behind P Q (Some rest) p h = inr h
