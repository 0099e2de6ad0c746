-- Lists, tested and seen through a function.
use Rattle.std.proofs.Common.{◌≡◌, ℕ, zero, suc, ◌≤◌, Bool, true, false, ◌||◌, cond, List, [], ◌∷◌, ◌++◌, length, map, filter, drop, find, Some, is_some, option_map, refl, ap, subst, arith}
use Rattle.std.specs.List.{AllByRecursion, list_any}

module _ {A B : Type 0} (f : A → B) (p : B → Bool) where
  abbrev seen : A → Bool
  seen x = p (f x)

  pub filter_seen : (xs : List A) → filter p (map f xs) ≡ map f (filter seen xs)
  filter_seen [] = refl
  filter_seen (x ∷ xs) = by_test (p (f x)) (filter_seen xs)
    where
      by_test : (b : Bool) → filter p (map f xs) ≡ map f (filter seen xs) → cond b (f x ∷ filter p (map f xs)) (filter p (map f xs)) ≡ map f (cond b (x ∷ filter seen xs) (filter seen xs))
      by_test true below = ap (λ (t : List B). f x ∷ t) below
      by_test false below = below

  pub find_seen : (xs : List A) → find p (map f xs) ≡ option_map f (find seen xs)
  find_seen [] = refl
  find_seen (x ∷ xs) = by_test (p (f x)) (find_seen xs)
    where
      by_test : (b : Bool) → find p (map f xs) ≡ option_map f (find seen xs) → cond b (Some (f x)) (find p (map f xs)) ≡ option_map f (cond b (Some x) (find seen xs))
      by_test true below = refl
      by_test false below = below

  pub any_seen : (xs : List A) → list_any p (map f xs) ≡ is_some (find seen xs)
  any_seen [] = refl
  any_seen (x ∷ xs) = by_test (p (f x)) (any_seen xs)
    where
      by_test : (b : Bool) → list_any p (map f xs) ≡ is_some (find seen xs) → b || list_any p (map f xs) ≡ is_some (cond b (Some x) (find seen xs))
      by_test true below = refl
      by_test false below = below

  pub list_any_seen : (xs : List A) → list_any p (map f xs) ≡ list_any seen xs
  list_any_seen [] = refl
  list_any_seen (x ∷ xs) = ap (λ (b : Bool). p (f x) || b) (list_any_seen xs)

module _ {A B : Type 0} (f : A → B) where
  pub map_push : (xs : List A) (x : A) → map f (xs ++ x ∷ []) ≡ map f xs ++ f x ∷ []
  map_push [] x = refl
  map_push (y ∷ ys) x = ap (λ (t : List B). f y ∷ t) (map_push ys x)

  pub map_drop : (n : ℕ) (xs : List A) → map f (drop n xs) ≡ drop n (map f xs)
  map_drop zero xs = refl
  map_drop (suc n) [] = refl
  map_drop (suc n) (x ∷ xs) = map_drop n xs

-- ---- what holds of each

module _ {A : Type 0} (P : A → Type 0) where
  each_if : (b : Bool) (x : A) (xs : List A) → P x → AllByRecursion P xs → AllByRecursion P (cond b (x ∷ xs) xs)
  each_if true x xs p ps = (p, ps)
  each_if false x xs p ps = ps

  pub each_filter : (test : A → Bool) (xs : List A) → AllByRecursion P xs → AllByRecursion P (filter test xs)
  each_filter test [] ps = tt
  each_filter test (x ∷ xs) ps = each_if (test x) x (filter test xs) ps.0 (each_filter test xs ps.1)

  pub each_drop : (k : ℕ) (xs : List A) → AllByRecursion P xs → AllByRecursion P (drop k xs)
  each_drop zero xs ps = ps
  each_drop (suc k) [] ps = tt
  each_drop (suc k) (x ∷ xs) ps = each_drop k xs ps.1

  pub each_push : (xs : List A) (x : A) → AllByRecursion P xs → P x → AllByRecursion P (xs ++ x ∷ [])
  each_push [] x ps p = (p, tt)
  each_push (y ∷ ys) x ps p = (ps.0, each_push ys x ps.1 p)

  pub each_found : (test : A → Bool) (xs : List A) (x : A) → AllByRecursion P xs → find test xs ≡ Some x → P x
  each_found test [] x ps found = absurd (cc)
  each_found test (y ∷ ys) x ps found = by_test (test y) found (λ later. each_found test ys x ps.1 later)
    where
      by_test : (b : Bool) → cond b (Some y) (find test ys) ≡ Some x → (find test ys ≡ Some x → P x) → P x
      by_test true found below = let same : y ≡ x = cc in subst P same ps.0
      by_test false found below = below found

pub length_filter : {A : Type 0} (test : A → Bool) (xs : List A) → length (filter test xs) ≤ length xs
length_filter test [] = omega arith
length_filter {A} test (x ∷ xs) = by_test (test x) (length_filter test xs)
  where
    by_test : (b : Bool) → length (filter test xs) ≤ length xs → length (cond b (x ∷ filter test xs) (filter test xs)) ≤ suc (length xs)
    by_test true le = omega arith
    by_test false le = omega arith
