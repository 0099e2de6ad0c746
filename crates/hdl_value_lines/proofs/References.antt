-- A reference whose index stands behind the last colon.
use Rattle.std.proofs.Common.{◌≡◌, ℕ, List, ◌∷◌, ◌++◌, Option, Some, None, IfSome, Bor, inr, sym, ap, subst, ◌∙◌}
use Rattle.hdl_name.specs.Name.{IsHandle}
use Rattle.hdl_value_lines.specs.Fields.{colon, IsIndexOf, IsReferenceOf}

pub last_reference : (words handle digits : List ℕ) (index : ℕ) (o : Option (ℕ × Bor (List ℕ))) → words ≡ handle ++ colon ∷ digits → IsIndexOf digits index
    → IfSome o (λ r. (r.0 ≡ index) × (r.1.now ≡ handle) × IsHandle handle) → IfSome o (λ r. IsReferenceOf words r.0 r.1.now)
last_reference words handle digits index None parts is_index h = tt
last_reference words handle digits index (Some r) parts is_index h = (
  subst IsHandle (sym h.1) h.2,
  (digits, subst (IsIndexOf digits) (sym h.0) is_index, inr (parts ∙ ap (λ name. name ++ colon ∷ digits) (sym h.1))),
)
