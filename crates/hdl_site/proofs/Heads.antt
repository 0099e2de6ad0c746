-- The head of a site, put field by field.
use Rattle.std.proofs.Common.{ℕ, List, [], ◌∷◌, ◌++◌, ◌≡◌, ap, ◌∙◌, append_assoc}

regroup : (o a : List ℕ) (b c : ℕ) (d : List ℕ) (e f : ℕ) (g : List ℕ) → o ++ a ++ b ∷ [] ++ c ∷ [] ++ d ++ e ∷ [] ++ f ∷ [] ++ g ≡ o ++ (a ++ (b ∷ (c ∷ (d ++ (e ∷ (f ∷ g))))))
regroup o a b c d e f g = simp append_assoc

pub head_written : (o x1 x2 x3 x4 x5 x6 x7 a : List ℕ) (b c : ℕ) (d : List ℕ) (e f : ℕ) (g : List ℕ) → x1 ≡ o ++ a → x2 ≡ x1 ++ b ∷ [] → x3 ≡ x2 ++ c ∷ [] → x4 ≡ x3 ++ d → x5 ≡ x4 ++ e ∷ [] → x6 ≡ x5 ++ f ∷ [] → x7 ≡ x6 ++ g
    → x7 ≡ o ++ (a ++ (b ∷ (c ∷ (d ++ (e ∷ (f ∷ g))))))
head_written o x1 x2 x3 x4 x5 x6 x7 a b c d e f g e1 e2 e3 e4 e5 e6 e7 =
    e7 ∙ ap (λ (x : List ℕ). x ++ g)
    (e6 ∙ ap (λ (x : List ℕ). x ++ f ∷ [])
    (e5 ∙ ap (λ (x : List ℕ). x ++ e ∷ [])
    (e4 ∙ ap (λ (x : List ℕ). x ++ d)
    (e3 ∙ ap (λ (x : List ℕ). x ++ c ∷ [])
    (e2 ∙ ap (λ (x : List ℕ). x ++ b ∷ []) e1)))))
    ∙ regroup o a b c d e f g
