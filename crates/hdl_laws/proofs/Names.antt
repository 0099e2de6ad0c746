-- The handles of a naming authority.
use Rattle.std.proofs.Common.{◌≡◌, ℕ, List, Bool, true, false, refl, sym, ◌∙◌, IsTrue}
use Rattle.std.specs.Prelude.{if◌then◌else◌}
use Rattle.std.specs.Cmp.Lexicographic.{same_text}
use Rattle.hdl_name.specs.Name.{prefix, authority, local}
use Rattle.hdl_value.specs.Place.{same_handle}
use Rattle.hdl_value.proofs.Places.{handles_equal}
use Rattle.hdl_tenants.specs.Register.{root}

by_authority : (b : Bool) (x y a : List ℕ) → y ≡ a → (b ≡ true → y ≡ root) → (a ≡ root → ⊥) → (if b then x else y) ≡ a
by_authority true x y a e is other = absurd (other (sym e ∙ is refl))
by_authority false x y a e is other = e

-- a handle of an authority other than the root has that prefix
pub prefix_by_authority : (h a : List ℕ) → IsTrue (same_handle (authority h) a) → (a ≡ root → ⊥) → prefix h ≡ a
prefix_by_authority h a e other = by_authority _ (local h) (authority h) a (handles_equal _ _ e) (λ is. same_text _ _ (sym is)) other
