-- One step of merging two lists of handles.
use Rattle.std.proofs.Common.{◌≡◌, ℕ, List, [], ◌∷◌, ◌++◌, Bool, true, false, cond, Option, Some, None, refl, sym, ap, ◌∙◌, true≢false, ◌<◌, length, slice_index_or, arith}
use Rattle.std.specs.Option.{option_to_list}
use Rattle.std.specs.Ordering.{is_lt}
use Rattle.hdl_value.specs.Place.{handle_cmp}
use Rattle.hdl_partitionedrows.specs.Partitioned.{merged, merged_from, takes_second}

merged_none : (xs : List (List ℕ)) → merged xs [] ≡ xs
merged_none [] = refl
merged_none (x ∷ xs) = refl

not_one : {h : List ℕ} {zs : List (List ℕ)} → [] ≡ h ∷ zs → ⊥
not_one e = true≢false (ap none e)
  where
    none : List (List ℕ) → Bool
    none [] = true
    none (x ∷ xs) = false

-- the head, and then what is made of the rest
on_rest : (List (List ℕ) → List (List ℕ)) → List (List ℕ) → List (List ℕ)
on_rest f [] = []
on_rest f (x ∷ xs) = x ∷ f xs

pub second_taken : (xs ys zs : List (List ℕ)) (o : Option (List ℕ)) → takes_second xs ys ≡ true → ys ≡ option_to_list o ++ zs → merged xs ys ≡ option_to_list o ++ merged xs zs
unfolding on_rest
second_taken [] ys zs o t e = e
second_taken (x ∷ xs) [] zs o t e = absurd (true≢false (sym t))
second_taken (x ∷ xs) (y ∷ ys) zs None t e = ap (merged (x ∷ xs)) e
second_taken (x ∷ xs) (y ∷ ys) zs (Some h) t e =
    ap (λ b. cond b (y ∷ merged_from x xs (merged xs) ys) (x ∷ merged xs (y ∷ ys))) t ∙ ap (on_rest (merged (x ∷ xs))) e

pub first_taken : (xs ys zs : List (List ℕ)) (o : Option (List ℕ)) → takes_second xs ys ≡ false → xs ≡ option_to_list o ++ zs → merged xs ys ≡ option_to_list o ++ merged zs ys
unfolding on_rest
first_taken xs ys zs None t e = ap (λ l. merged l ys) e
first_taken [] ys zs (Some h) t e = absurd (not_one e)
first_taken (x ∷ xs) [] zs (Some h) t e = e ∙ ap (λ l. h ∷ l) (sym (merged_none zs))
first_taken (x ∷ xs) (y ∷ ys) zs (Some h) t e =
    ap (λ b. cond b (y ∷ merged_from x xs (merged xs) ys) (x ∷ merged xs (y ∷ ys))) t ∙ ap (on_rest (λ l. merged l (y ∷ ys))) e

-- the heads of two lists that have some decide
pub heads_taken : (xs ys : List (List ℕ)) (m n : ℕ) (x y : List ℕ) → m ≡ length xs → n ≡ length ys → 0 < m → 0 < n → x ≡ slice_index_or xs 0 x → y ≡ slice_index_or ys 0 y → is_lt (handle_cmp y x) ≡ takes_second xs ys
heads_taken [] ys m n x y a b some more e f = let none : ⊥ = omega arith in absurd none
heads_taken (g ∷ xs) [] m n x y a b some more e f = let none : ⊥ = omega arith in absurd none
heads_taken (g ∷ xs) (h ∷ ys) m n x y a b some more e f = λ i. is_lt (handle_cmp (f i) (e i))
