-- The parts of a statement that went on, and the trees that it goes to.
use Rattle.std.proofs.Common.{◌≡◌, ◌⊎◌, inl, inr, ℕ, Ok, Err, Result, arith}
use Rattle.sqlite_rules.specs.Edit.{IsNoIndex}
use Rattle.hdl_sqlrows.specs.Layout.{layout}

-- a part that gave a value did not stop on the way
pub went : {B E R : Type 0} {b : B} {Stops : E → Type 0} → ((stop : E) × Stops stop × (Ok b ≡ Err stop)) ⊎ R → R
went (inl stopped) = absurd (let e = stopped.2 in cc)
went (inr on) = on

pub same_value : {B E : Type 0} {a b : B} → ◌≡◌ {A = Result B E} (Ok a) (Ok b) → a ≡ b
same_value e = cc

-- the trees of the tables are no index's
pub no_index : (t : ℕ) → (t ≡ 0) ⊎ ((t ≡ 2) ⊎ (t ≡ 4)) → IsNoIndex layout t
no_index t (inl e) = ((λ h. omega (arith, h, e)), ((λ h. omega (arith, h, e)), ((λ h. omega (arith, h, e)), tt)))
no_index t (inr (inl e)) = ((λ h. omega (arith, h, e)), ((λ h. omega (arith, h, e)), ((λ h. omega (arith, h, e)), tt)))
no_index t (inr (inr e)) = ((λ h. omega (arith, h, e)), ((λ h. omega (arith, h, e)), ((λ h. omega (arith, h, e)), tt)))
