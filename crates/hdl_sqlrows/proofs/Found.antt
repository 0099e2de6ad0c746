-- What is found among the entries that rows say, where no two have one key.
use Rattle.std.proofs.Common.{true≢false, ◌≡◌, ℕ, suc, ◌<◌, ◌≤◌, List, [], ◌∷◌, map, filter, length, get_or, Bool, true, false, cond, T, None, Some, Option, refl, sym, ap, ◌∙◌, arith, Ordering, Less, Equal, Greater, is_eq, is_lt}
use Rattle.std.specs.List.{AllByRecursion}
use Rattle.std.specs.List.Sorted.{IsPermutation, IsSorted}
use Rattle.std.specs.Cmp.{IsTotalOrder, tied_itself}
use Rattle.std.specs.Ordering.{eq_by_cmp, ordering_reverse}
use Rattle.std.specs.FinMap.{find, is_sorted}
use Rattle.std.specs.FinMap.Entries.{where_key, below_all, find-where_key}
use Rattle.std.proofs.lemmas.List.Sorted.{length_permutation, sorted_far, ranks_by}
use Rattle.sqlite_trees.proofs.ListLemmas.{IsPermutation-filter}
use Rattle.sqlite.proofs.Callers.{one_permutation}
use Rattle.hdl_rows.proofs.ShelfLemmas.{both}

-- ---- how many rows pass

pub times-cons : {A : Type 0} (p : A → Bool) (x : A) (xs : List A) → length (filter p xs) ≤ length (filter p (x ∷ xs))
times-cons p x xs = elim (p x) as (λ b. length (filter p xs) ≤ length (cond b (x ∷ filter p xs) (filter p xs))) [ true ↦ omega arith | false ↦ omega arith ]

pub times-filter : {A : Type 0} (p q : A → Bool) (xs : List A) → length (filter p (filter q xs)) ≤ length (filter p xs)
times-filter p q [] = omega arith
times-filter p q (x ∷ xs) =
    let rest = times-filter p q xs in
    elim (q x) as (λ b. length (filter p (cond b (x ∷ filter q xs) (filter q xs))) ≤ length (filter p (x ∷ xs))) [
      | true ↦ elim (p x) as (λ c. length (cond c (x ∷ filter p (filter q xs)) (filter p (filter q xs))) ≤ length (cond c (x ∷ filter p xs) (filter p xs))) [ true ↦ omega (arith, rest) | false ↦ rest ]
      | false ↦ let more = times-cons p x xs in omega (arith, rest, more)
    ]

-- lists of one element at most that are permutations are equal
pub short_permutation : {A : Type 0} (xs ys : List A) → length xs ≤ 1 → IsPermutation xs ys → xs ≡ ys
short_permutation [] [] short h = refl
short_permutation [] (y ∷ ys) short h = absurd (omega (arith, length_permutation [] (y ∷ ys) h))
short_permutation (x ∷ []) ys short h = sym (one_permutation x ys h)
short_permutation (x ∷ z ∷ xs) ys short h = absurd (omega (arith, short))

-- none passes where a further one that passes leaves at most one
pub none_more : {A : Type 0} (p : A → Bool) (x : A) (xs : List A) → p x ≡ true → length (filter p (x ∷ xs)) ≤ 1 → length (filter p xs) ≡ 0
none_more p x xs here short = let n : length (cond (p x) (x ∷ filter p xs) (filter p xs)) ≤ 1 = short in omega (arith, rw here at n)

pub none_passes : {A : Type 0} (p : A → Bool) (xs : List A) → length (filter p xs) ≡ 0 → AllByRecursion (λ x. p x ≡ false) xs
none_passes p [] none = tt
none_passes p (x ∷ xs) none = by_test (p x) refl none (none_passes p xs)
  where
    by_test : (b : Bool) → p x ≡ b → length (cond b (x ∷ filter p xs) (filter p xs)) ≡ 0 → (length (filter p xs) ≡ 0 → AllByRecursion (λ y. p y ≡ false) xs) → (p x ≡ false) × AllByRecursion (λ y. p y ≡ false) xs
    by_test true is n rest = absurd (omega (arith, n))
    by_test false is n rest = (is, rest n)

module _ {A K X : Type 0} {R : K → K → Ordering} (o : IsTotalOrder R) (key : A → K) (value : A → X) where
  abbrev entries : List A → List (K × X)
  entries = map (λ a. (key a, value a))

  abbrev is_at : K → A → Bool
  is_at k a = eq_by_cmp R k (key a)

  -- the value of the first
  abbrev pub first_value : List A → Option X
  first_value [] = None
  first_value (a ∷ rs) = Some (value a)

  pub found_first : (k : K) (rs : List A) → find R k (entries rs) ≡ first_value (filter (is_at k) rs)
  found_first k [] = refl
  found_first k (a ∷ rs) =
      elim (is_at k a) as (λ b. cond b (Some (value a)) (find R k (entries rs)) ≡ first_value (cond b (a ∷ filter (is_at k) rs) (filter (is_at k) rs))) [ true ↦ refl | false ↦ found_first k rs ]

  -- where no two have one key, the order does not matter
  pub found_moved : (k : K) (rs bs : List A) → IsPermutation rs bs → length (filter (is_at k) rs) ≤ 1 → find R k (entries rs) ≡ find R k (entries bs)
  found_moved k rs bs moved single =
      found_first k rs ∙ ap first_value (short_permutation _ _ single (IsPermutation-filter (is_at k) rs bs moved)) ∙ sym (found_first k bs)

  kept_entries : (keep : A → Bool) (p : K → Bool) (rs : List A) → AllByRecursion (λ a. keep a ≡ p (key a)) rs → entries (filter keep rs) ≡ where_key R p (entries rs)
  kept_entries keep p [] same = refl
  kept_entries keep p (a ∷ rs) same =
      ap (λ b. entries (cond b (a ∷ filter keep rs) (filter keep rs))) same.0
      ∙ elim (p (key a)) as (λ b. entries (cond b (a ∷ filter keep rs) (filter keep rs)) ≡ cond b ((key a, value a) ∷ where_key R p (entries rs)) (where_key R p (entries rs))) [
        | true ↦ ap (λ es. (key a, value a) ∷ es) (kept_entries keep p rs same.1)
        | false ↦ kept_entries keep p rs same.1
      ]

  -- among those that pass a test of the key
  pub found_kept : (keep : A → Bool) (p : K → Bool) (k : K) → ((x : K) → R k x ≡ Equal → p x ≡ p k) → (rs : List A) → AllByRecursion (λ a. keep a ≡ p (key a)) rs
      → find R k (entries (filter keep rs)) ≡ cond (p k) (find R k (entries rs)) None
  found_kept keep p k alike rs same = ap (find R k) (kept_entries keep p rs same) ∙ find-where_key R p k alike (entries rs)

  -- ---- order

  abbrev Far : List A → Type 0
  Far rs = (i j : ℕ) (d : A) → i ≤ j → j < length rs → is_lt (R (key (get_or rs j d)) (key (get_or rs i d))) ≡ false

  abbrev Single : List A → Type 0
  Single rs = (k : K) → length (filter (is_at k) rs) ≤ 1

  below : (a : A) (bs : List A) → ((i : ℕ) (d : A) → i < length bs → is_lt (R (key (get_or bs i d)) (key a)) ≡ false) → AllByRecursion (λ b. is_at (key a) b ≡ false) bs → T (below_all R (key a) (entries bs))
  below a [] far apart = tt
  below a (b ∷ bs) far apart = both _ _ (less (R (key a) (key b)) refl apart.0) (below a bs (λ i d lt. far (suc i) d (omega (arith, lt))) apart.1)
    where
      less : (r : Ordering) → R (key a) (key b) ≡ r → is_eq r ≡ false → T (is_lt r)
      less Less e n = tt
      less Equal e n = absurd (true≢false n)
      less Greater e n = absurd (true≢false (sym (ap is_lt (o.antisymm (key b) (key a) ∙ ap ordering_reverse e)) ∙ far 0 b (omega arith)))

  rises : (rs : List A) → Far rs → Single rs → T (is_sorted R (entries rs))
  rises [] far single = tt
  rises (a ∷ rs) far single =
      let here : is_at (key a) a ≡ true = ap is_eq (tied_itself o (key a)) in
      let apart = none_passes (is_at (key a)) rs (none_more (is_at (key a)) a rs here (single (key a))) in
      both _ _ (below a rs (λ i d lt. far 0 (suc i) d (omega arith) (omega (arith, lt))) apart)
      (rises rs (λ i j d le lt. far (suc i) (suc j) d (omega (arith, le)) (omega (arith, lt))) (λ k. let more = times-cons (is_at k) a rs in omega (arith, more, single k)))

  -- rows in order, of which no two have one key, strictly rise
  pub strictly_rises : (rs : List A) → IsSorted (λ a b. R (key a) (key b)) rs → ((k : K) → length (filter (λ a. eq_by_cmp R k (key a)) rs) ≤ 1) → T (is_sorted R (map (λ a. (key a, value a)) rs))
  strictly_rises rs sorted single = rises rs (sorted_far (λ a b. is_lt (R (key a) (key b))) (ranks_by o key) rs sorted) single
