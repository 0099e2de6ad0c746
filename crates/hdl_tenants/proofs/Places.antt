-- Which places are taken, and how many of a handle.
use Rattle.std.proofs.Common.{◌≡◌, ◌++◌, ◌∷◌, [], List, ℕ, ◌+◌, ◌==◌, ◌&&◌, Bool, true, false, not, cond, Some, map, unwrap_or, Contains, Decides, arith, sym, ap, ◌∙◌, refl, inl, inr, true≢false, eqb-true}
use Rattle.std.specs.Str.{bytes_eq}
use Rattle.std.specs.List.{list_any}
use Rattle.std.specs.Map.{lookup}
use Rattle.std.proofs.lemmas.Bool.Decides.{Decides-eqb}
use Rattle.std.proofs.lemmas.Slice.Eq.{bytes_eq-Decides}
use Rattle.std.proofs.lemmas.List.Sums.{sum_by-append, sum_by-cons}
use Rattle.std.proofs.lemmas.List.Elements.{Contains-append_right, Contains-append_cases, Contains-push_cases}
use Rattle.indexmap.specs.IndexMap.{insert_entry}
use Rattle.hdl_name.specs.Name.{canonical}
use Rattle.hdl_value.specs.Place.{Place}
use Rattle.hdl_tenants.specs.Register.{Row, place, value_count}
use Rattle.hdl_tenants.specs.Taken.{count_at}

module _ {A : Type 0} (test : A → Bool) (shown : A → Place) (p : Place) (decides : (x : A) → Decides (test x) (shown x ≡ p)) where
  -- what a test finds is there
  pub found : (xs : List A) → list_any test xs ≡ true → Contains (map shown xs) p
  found [] t = absurd (true≢false (sym t))
  found (x ∷ xs) t = by (test x) refl (found xs)
    where
      by : (b : Bool) → test x ≡ b → (list_any test xs ≡ true → Contains (map shown xs) p) → Contains (map shown (x ∷ xs)) p
      by true h later = (0, omega arith, (decides x).0 h)
      by false h later = Contains-append_right (shown x ∷ []) (map shown xs) p (later (rw h at t))

  -- and what it doesn't find is not
  pub absent : (xs : List A) → list_any test xs ≡ false → Contains (map shown xs) p → ⊥
  absent [] f there = absurd (omega (arith, there.1))
  absent (x ∷ xs) f there = by (test x) refl (absent xs)
    where
      by : (b : Bool) → test x ≡ b → (list_any test xs ≡ false → Contains (map shown xs) p → ⊥) → ⊥
      by true h later = true≢false (rw h at f)
      by false h later = elim (Contains-append_cases (shown x ∷ []) (map shown xs) p there) [
        | inl first ↦ elim (Contains-push_cases [] (shown x) p first) [
          | inl none ↦ absurd (omega (arith, none.1))
          | inr same ↦ true≢false (sym ((decides x).1 same) ∙ h)
        ]
        | inr other ↦ later (rw h at f) other
      ]

-- a handle and an index are a place
pub place_decides : (a b : List ℕ) (i j : ℕ) (p : Place) → p ≡ record { handle = a; index = i } → Decides (bytes_eq a b && (i == j)) (record { handle = b; index = j } ≡ p)
place_decides a b i j p is = (λ t. to (bytes_eq a b) (i == j) refl refl t, λ e. from e)
  where
    to : (x y : Bool) → bytes_eq a b ≡ x → (i == j) ≡ y → (x && y) ≡ true → record { handle = b; index = j } ≡ p
    to true true h k t =
        let handles : b ≡ a = sym ((bytes_eq-Decides a b).0 h) in
        let indexes : j ≡ i = sym (eqb-true i j k) in
        let same : record { handle = b; index = j } ≡ record { handle = a; index = i } = λ n. record { handle = handles n; index = indexes n } in
        same ∙ sym is
    to true false h k t = absurd (true≢false (sym t))
    to false y h k t = absurd (true≢false (sym t))

    from : record { handle = b; index = j } ≡ p → (bytes_eq a b && (i == j)) ≡ true
    from e =
        let same : record { handle = b; index = j } ≡ record { handle = a; index = i } = e ∙ is in
        let handles : a ≡ b = sym (ap (λ (q : Place). q.handle) same) in
        let indexes : i ≡ j = sym (ap (λ (q : Place). q.index) same) in
        rw ((bytes_eq-Decides a b).1 handles, (Decides-eqb i j).1 indexes) refl

not_true : (b : Bool) → (b ≡ true → ⊥) → b ≡ false
not_true true f = absurd (f refl)
not_true false f = refl

pub not_of : (b : Bool) → true ≡ not b → b ≡ false
not_of true e = absurd (true≢false e)
not_of false e = refl

pub of_not : (b : Bool) → false ≡ not b → b ≡ true
of_not true e = refl
of_not false e = absurd (true≢false (sym e))

-- ---- counts

-- the places of the rows are counted as the rows are
pub count_at-places : (handle : List ℕ) (rows : List Row) → count_at handle (map place rows) ≡ value_count handle rows
count_at-places handle [] = refl
count_at-places handle (row ∷ rows) =
    sum_by-cons (λ (p : Place). cond (bytes_eq p.handle handle) 1 0) (place row) (map place rows)
    ∙ ap (λ n. cond (bytes_eq (canonical row.0) handle) 1 0 + n) (count_at-places handle rows)
    ∙ sym (sum_by-cons (λ (r : Row). cond (bytes_eq (canonical r.0) handle) 1 0) row rows)

pub count_at-push : (handle : List ℕ) (places : List Place) (p : Place) → count_at handle (places ++ p ∷ []) ≡ count_at handle places + cond (bytes_eq p.handle handle) 1 0
count_at-push handle places p = sum_by-append (λ (q : Place). cond (bytes_eq q.handle handle) 1 0) places (p ∷ []) ∙ ap (λ n. count_at handle places + n) (omega arith)

module _ {K : Type 0} (text : K → List ℕ) (handle : List ℕ) where
  same_test : (a b : List ℕ) → bytes_eq a b ≡ true → bytes_eq handle a ≡ bytes_eq handle b
  same_test a b t = ap (bytes_eq handle) ((bytes_eq-Decides a b).0 t)

  once_or_other : {X : Type 0} (x y : Bool) (u v w : X) → (x ≡ true → y ≡ true → ⊥) → cond x u (cond y v w) ≡ cond y v (cond x u w)
  once_or_other true true u v w apart = absurd (apart refl refl)
  once_or_other true false u v w apart = refl
  once_or_other false y u v w apart = refl

  twice : {X : Type 0} (x : Bool) (u v w : X) → cond x u w ≡ cond x u (cond x v w)
  twice true u v w = refl
  twice false u v w = refl

  -- what is found after a count is written
  pub lookup-insert : {X : Type 0} (k : K) (n : X) (es : List (K × X)) → lookup (λ x. bytes_eq handle (text x)) (insert_entry (λ a b. bytes_eq (text a) (text b)) es k n) ≡ cond (bytes_eq handle (text k)) (Some n) (lookup (λ x. bytes_eq handle (text x)) es)
  lookup-insert k n [] = refl
  lookup-insert k n (e ∷ es) = by (bytes_eq (text k) (text e.0)) refl (lookup-insert k n es)
    where
      by : (b : Bool) → bytes_eq (text k) (text e.0) ≡ b
          → lookup (λ x. bytes_eq handle (text x)) (insert_entry (λ a c. bytes_eq (text a) (text c)) es k n) ≡ cond (bytes_eq handle (text k)) (Some n) (lookup (λ x. bytes_eq handle (text x)) es)
          → lookup (λ x. bytes_eq handle (text x)) (insert_entry (λ a c. bytes_eq (text a) (text c)) (e ∷ es) k n) ≡ cond (bytes_eq handle (text k)) (Some n) (lookup (λ x. bytes_eq handle (text x)) (e ∷ es))
      by true t later = rw (t, same_test (text k) (text e.0) t) (twice (bytes_eq handle (text e.0)) (Some n) (Some e.1) (lookup (λ x. bytes_eq handle (text x)) es))
      by false t later =
          rw (t, later) (once_or_other (bytes_eq handle (text e.0)) (bytes_eq handle (text k)) (Some e.1) (Some n) (lookup (λ x. bytes_eq handle (text x)) es)
          (λ h g. true≢false (sym ((bytes_eq-Decides (text k) (text e.0)).1 (sym ((bytes_eq-Decides handle (text k)).0 g) ∙ (bytes_eq-Decides handle (text e.0)).0 h)) ∙ t)))

  -- a count that is one more
  pub counted-more : (k : K) (n : ℕ) (es : List (K × ℕ)) (places : List Place) (p : Place) → text k ≡ p.handle → n ≡ count_at p.handle places + 1
      → unwrap_or (lookup (λ x. bytes_eq handle (text x)) es) 0 ≡ count_at handle places
      → unwrap_or (lookup (λ x. bytes_eq handle (text x)) (insert_entry (λ a b. bytes_eq (text a) (text b)) es k n)) 0 ≡ count_at handle (places ++ p ∷ [])
  counted-more k n es places p key is before =
      ap (λ o. unwrap_or o 0) (lookup-insert k n es) ∙ by (bytes_eq handle (text k)) refl ∙ sym (count_at-push handle places p)
    where
      by : (b : Bool) → bytes_eq handle (text k) ≡ b → unwrap_or (cond (bytes_eq handle (text k)) (Some n) (lookup (λ x. bytes_eq handle (text x)) es)) 0 ≡ count_at handle places + cond (bytes_eq p.handle handle) 1 0
      by true t =
          let own : handle ≡ p.handle = (bytes_eq-Decides handle (text k)).0 t ∙ key in
          let back : bytes_eq p.handle handle ≡ true = (bytes_eq-Decides p.handle handle).1 (sym own) in
          rw (t, back) (is ∙ ap (λ (h : List ℕ). count_at h places + 1) (sym own))
      by false t =
          let other : bytes_eq p.handle handle ≡ false = not_true (bytes_eq p.handle handle) (λ e. true≢false (sym ((bytes_eq-Decides handle (text k)).1 (sym (key ∙ (bytes_eq-Decides p.handle handle).0 e))) ∙ t)) in
          rw (t, other) (before ∙ omega arith)
