-- The texts of so many fields, of which the first is known.
use Rattle.std.proofs.Common.{◌≡◌, ◌≤◌, List, [], ◌∷◌, ℕ, length, get_or, map, take, drop, ◌-◌, sym, arith, refl, ap, ◌∙◌, Bor}
use Rattle.std.proofs.lemmas.List.{take_all, length-drop}

three : {X : Type 0} (xs : List X) (d : X) → length xs ≡ 3 → xs ≡ get_or xs 0 d ∷ get_or xs 1 d ∷ get_or xs 2 d ∷ []
three [] d h = absurd (omega arith)
three (a ∷ []) d h = absurd (omega arith)
three (a ∷ b ∷ []) d h = absurd (omega arith)
three (a ∷ b ∷ e ∷ []) d h = refl
three (a ∷ b ∷ e ∷ f ∷ more) d h = absurd (omega arith)

four : {X : Type 0} (xs : List X) (d : X) → length xs ≡ 4 → xs ≡ get_or xs 0 d ∷ get_or xs 1 d ∷ get_or xs 2 d ∷ get_or xs 3 d ∷ []
four [] d h = absurd (omega arith)
four (a ∷ []) d h = absurd (omega arith)
four (a ∷ b ∷ []) d h = absurd (omega arith)
four (a ∷ b ∷ e ∷ []) d h = absurd (omega arith)
four (a ∷ b ∷ e ∷ f ∷ []) d h = refl
four (a ∷ b ∷ e ∷ f ∷ g ∷ more) d h = absurd (omega arith)

pub three_texts : (xs : List (Bor (List ℕ))) (d : Bor (List ℕ)) (w : List ℕ) → length xs ≡ 3 → (get_or xs 0 d).now ≡ w → map (λ x. x.now) xs ≡ w ∷ (get_or xs 1 d).now ∷ (get_or xs 2 d).now ∷ []
three_texts xs d w n e = ap (map (λ x. x.now)) (three xs d n) ∙ ap (λ t. t ∷ (get_or xs 1 d).now ∷ (get_or xs 2 d).now ∷ []) e

pub four_texts : (xs : List (Bor (List ℕ))) (d : Bor (List ℕ)) (w : List ℕ) → length xs ≡ 4 → (get_or xs 0 d).now ≡ w → map (λ x. x.now) xs ≡ w ∷ (get_or xs 1 d).now ∷ (get_or xs 2 d).now ∷ (get_or xs 3 d).now ∷ []
four_texts xs d w n e = ap (map (λ x. x.now)) (four xs d n) ∙ ap (λ t. t ∷ (get_or xs 1 d).now ∷ (get_or xs 2 d).now ∷ (get_or xs 3 d).now ∷ []) e

at_least_four : {X : Type 0} (xs : List X) (d : X) → 4 ≤ length xs → xs ≡ get_or xs 0 d ∷ get_or xs 1 d ∷ get_or xs 2 d ∷ get_or xs 3 d ∷ drop 4 xs
at_least_four [] d h = absurd (omega arith)
at_least_four (a ∷ []) d h = absurd (omega arith)
at_least_four (a ∷ b ∷ []) d h = absurd (omega arith)
at_least_four (a ∷ b ∷ e ∷ []) d h = absurd (omega arith)
at_least_four (a ∷ b ∷ e ∷ f ∷ more) d h = refl

pub four_texts_and : (xs : List (Bor (List ℕ))) (d : Bor (List ℕ)) (w : List ℕ) → 4 ≤ length xs → (get_or xs 0 d).now ≡ w
    → map (λ x. x.now) xs ≡ w ∷ (get_or xs 1 d).now ∷ (get_or xs 2 d).now ∷ (get_or xs 3 d).now ∷ map (λ x. x.now) (take (length xs - 4) (drop 4 xs))
four_texts_and xs d w n e =
    ap (map (λ x. x.now)) (at_least_four xs d n)
    ∙ ap (λ t. t ∷ (get_or xs 1 d).now ∷ (get_or xs 2 d).now ∷ (get_or xs 3 d).now ∷ map (λ x. x.now) (drop 4 xs)) e
    ∙ ap (λ more. w ∷ (get_or xs 1 d).now ∷ (get_or xs 2 d).now ∷ (get_or xs 3 d).now ∷ map (λ (x : Bor (List ℕ)). x.now) more) (sym (take_all (length xs - 4) (drop 4 xs) (omega (arith, length-drop 4 xs))))

at_least_three : {X : Type 0} (xs : List X) (d : X) → 3 ≤ length xs → xs ≡ get_or xs 0 d ∷ get_or xs 1 d ∷ get_or xs 2 d ∷ drop 3 xs
at_least_three [] d h = absurd (omega arith)
at_least_three (a ∷ []) d h = absurd (omega arith)
at_least_three (a ∷ b ∷ []) d h = absurd (omega arith)
at_least_three (a ∷ b ∷ e ∷ more) d h = refl

pub three_texts_and : (xs : List (Bor (List ℕ))) (d : Bor (List ℕ)) (w : List ℕ) → 3 ≤ length xs → (get_or xs 0 d).now ≡ w
    → map (λ x. x.now) xs ≡ w ∷ (get_or xs 1 d).now ∷ (get_or xs 2 d).now ∷ map (λ x. x.now) (take (length xs - 3) (drop 3 xs))
three_texts_and xs d w n e =
    ap (map (λ x. x.now)) (at_least_three xs d n)
    ∙ ap (λ t. t ∷ (get_or xs 1 d).now ∷ (get_or xs 2 d).now ∷ map (λ x. x.now) (drop 3 xs)) e
    ∙ ap (λ more. w ∷ (get_or xs 1 d).now ∷ (get_or xs 2 d).now ∷ map (λ (x : Bor (List ℕ)). x.now) more) (sym (take_all (length xs - 3) (drop 3 xs) (omega (arith, length-drop 3 xs))))
