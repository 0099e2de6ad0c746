-- What the writer puts, one after the other.
use Rattle.std.proofs.Common.{◌≡◌, ℕ, List, [], ◌∷◌, ◌++◌, ap, ◌∙◌, append_assoc}
use Rattle.std.specs.Prelude.{codes}
use Rattle.hdl_value_lines.specs.Fields.{colon}

regroup : (o d b h : List ℕ) → o ++ d ++ (colon ∷ []) ++ b ++ (colon ∷ []) ++ h ≡ o ++ (d ++ colon ∷ (b ++ colon ∷ h))
regroup o d b h = simp append_assoc

pub admin_put : (x1 x2 x3 x4 x5 x6 d b h : List ℕ) → x1 ≡ codes "ADMIN " → x2 ≡ x1 ++ d → x3 ≡ x2 ++ colon ∷ [] → x4 ≡ x3 ++ b → x5 ≡ x4 ++ colon ∷ [] → x6 ≡ x5 ++ h → x6 ≡ codes "ADMIN " ++ (d ++ colon ∷ (b ++ colon ∷ h))
admin_put x1 x2 x3 x4 x5 x6 d b h e1 e2 e3 e4 e5 e6 =
    e6 ∙ ap (λ (x : List ℕ). x ++ h)
    (e5 ∙ ap (λ (x : List ℕ). x ++ colon ∷ [])
    (e4 ∙ ap (λ (x : List ℕ). x ++ b)
    (e3 ∙ ap (λ (x : List ℕ). x ++ colon ∷ [])
    (e2 ∙ ap (λ (x : List ℕ). x ++ d) e1))))
    ∙ regroup (codes "ADMIN ") d b h
