-- The names of two partitions, merged.
use Rattle.std.proofs.Common.{◌≡◌, ℕ, List, [], ◌∷◌, Bool, true, false, cond, not, ◌&&◌, ◌||◌, T, map, Some, None, refl, sym, ap, ◌∙◌, subst, true≢false, Ordering, Less, Equal, Greater, is_some}
use Rattle.std.specs.List.{AllByRecursion, list_any}
use Rattle.std.specs.Ordering.{is_lt, ordering_reverse}
use Rattle.std.specs.FinMap as finite
use Rattle.std.specs.FinMap.{is_sorted}
use Rattle.std.specs.FinMap.Entries.{below_all}
use Rattle.std.specs.FinSet as set
use Rattle.hdl_name.specs.Name.{authority}
use Rattle.hdl_value.specs.Place.{handle_cmp, same_handle}
use Rattle.hdl_value.proofs.Places.{handle_total, handle_antisymmetric, handle_itself}
use Rattle.hdl_rows.specs.Table.{Table, has, names_of, in_order, key}
use Rattle.hdl_rows.proofs.ShelfLemmas.{find-keys}
use Rattle.hdl_partitionedrows.specs.Partitioned.{own, joined, merged, merged_from}
use Rattle.hdl_partitionedrows.proofs.Joined.{on, contains_own}

or_false : (b : Bool) → b ≡ (b || false)
or_false true = refl
or_false false = refl

or_true : (b : Bool) → (b || true) ≡ true
or_true true = refl
or_true false = refl

or_after : (a b c : Bool) → (a || (b || c)) ≡ ((a || b) || c)
or_after true b c = refl
or_after false b c = refl

or_between : (a b c : Bool) → (c || (a || b)) ≡ (a || (c || b))
or_between true b c = or_true c
or_between false b c = refl

both : (a b : Bool) → T a → T b → T (a && b)
both true b p q = q
both false b p q = p

first : (a b : Bool) → T (a && b) → T a
first true b p = tt
first false b p = p

second : (a b : Bool) → T (a && b) → T b
second true b p = p
second false b p = absurd p

-- ---- what a merged list has

any_from : (q x : List ℕ) (xs : List (List ℕ)) (rest : List (List ℕ) → List (List ℕ)) → ((zs : List (List ℕ)) → list_any (same_handle q) (rest zs) ≡ (list_any (same_handle q) xs || list_any (same_handle q) zs))
    → (ys : List (List ℕ)) → list_any (same_handle q) (merged_from x xs rest ys) ≡ (list_any (same_handle q) (x ∷ xs) || list_any (same_handle q) ys)
any_from q x xs rest is [] = or_false (list_any (same_handle q) (x ∷ xs))
any_from q x xs rest is (y ∷ ys) =
    elim (is_lt (handle_cmp y x)) as (λ b. list_any (same_handle q) (cond b (y ∷ merged_from x xs rest ys) (x ∷ rest (y ∷ ys))) ≡ (list_any (same_handle q) (x ∷ xs) || list_any (same_handle q) (y ∷ ys))) [
      | true ↦ ap (λ b. same_handle q y || b) (any_from q x xs rest is ys) ∙ or_between (list_any (same_handle q) (x ∷ xs)) (list_any (same_handle q) ys) (same_handle q y)
      | false ↦ ap (λ b. same_handle q x || b) (is (y ∷ ys)) ∙ or_after (same_handle q x) (list_any (same_handle q) xs) (list_any (same_handle q) (y ∷ ys))
    ]

any_merged : (q : List ℕ) (xs ys : List (List ℕ)) → list_any (same_handle q) (merged xs ys) ≡ (list_any (same_handle q) xs || list_any (same_handle q) ys)
any_merged q [] ys = refl
any_merged q (x ∷ xs) ys = any_from q x xs (merged xs) (any_merged q xs) ys

-- ---- its order

-- a handle is before each of a list
abbrev below : List ℕ → List (List ℕ) → Bool
below x hs = below_all handle_cmp x (map key hs)

abbrev rises : List (List ℕ) → Bool
rises hs = is_sorted handle_cmp (map key hs)

below_less : (x y : List ℕ) (hs : List (List ℕ)) → handle_cmp x y ≡ Less → T (below y hs) → T (below x hs)
below_less x y [] e h = tt
below_less x y (z ∷ hs) e h = both _ _ (subst (λ o. T (is_lt o)) (sym (handle_total.trans x y z e (is_less (handle_cmp y z) (first _ _ h)))) tt) (below_less x y hs e (second _ _ h))
  where
    is_less : (o : Ordering) → T (is_lt o) → o ≡ Less
    is_less Less p = refl
    is_less Equal p = absurd p
    is_less Greater p = absurd p

below_from : (z x : List ℕ) (xs : List (List ℕ)) (rest : List (List ℕ) → List (List ℕ)) → ((zs : List (List ℕ)) → T (below z zs) → T (below z (rest zs)))
    → (ys : List (List ℕ)) → T (below z (x ∷ xs)) → T (below z ys) → T (below z (merged_from x xs rest ys))
below_from z x xs rest go [] h k = h
below_from z x xs rest go (y ∷ ys) h k =
    elim (is_lt (handle_cmp y x)) as (λ b. T (below z (cond b (y ∷ merged_from x xs rest ys) (x ∷ rest (y ∷ ys))))) [
      | true ↦ both _ _ (first _ _ k) (below_from z x xs rest go ys h (second _ _ k))
      | false ↦ both _ _ (first _ _ h) (go (y ∷ ys) k)
    ]

below_merged : (z : List ℕ) (xs ys : List (List ℕ)) → T (below z xs) → T (below z ys) → T (below z (merged xs ys))
below_merged z [] ys h k = k
below_merged z (x ∷ xs) ys h k = below_from z x xs (merged xs) (λ zs. below_merged z xs zs (second _ _ h)) ys h k

module _ (is : List ℕ → Bool) where
  -- all are on this side
  abbrev AreOn : Bool → List (List ℕ) → Type 0
  AreOn b = AllByRecursion (λ h. is h ≡ b)

  rises_from : (x : List ℕ) (xs : List (List ℕ)) → T (rises (x ∷ xs)) → is x ≡ false → ((zs : List (List ℕ)) → T (rises zs) → AreOn true zs → T (rises (merged xs zs)))
      → (ys : List (List ℕ)) → T (rises ys) → AreOn true ys → T (rises (merged_from x xs (merged xs) ys))
  rises_from x xs h off go [] k on = h
  rises_from x xs h off go (y ∷ ys) k on =
      elim (handle_cmp y x) as (λ o. handle_cmp y x ≡ o → T (rises (cond (is_lt o) (y ∷ merged_from x xs (merged xs) ys) (x ∷ merged xs (y ∷ ys))))) [
        | Less ↦ λ e. both _ _ (below_merged y (x ∷ xs) ys (both _ _ (subst (λ o. T (is_lt o)) (sym e) tt) (below_less y x xs e (first _ _ h))) (first _ _ k)) (rises_from x xs h off go ys (second _ _ k) on.1)
        | Equal ↦ λ e. absurd (true≢false (sym on.0 ∙ ap is (handle_antisymmetric y x e) ∙ off))
        | Greater ↦ λ e.
            let less : handle_cmp x y ≡ Less = handle_total.antisymm x y ∙ ap ordering_reverse e in
            both _ _ (below_merged x xs (y ∷ ys) (first _ _ h) (both _ _ (subst (λ o. T (is_lt o)) (sym less) tt) (below_less x y ys less (first _ _ k)))) (go (y ∷ ys) k on)
      ] refl

  rises_merged : (xs ys : List (List ℕ)) → T (rises xs) → T (rises ys) → AreOn false xs → AreOn true ys → T (rises (merged xs ys))
  rises_merged [] ys h k off on = k
  rises_merged (x ∷ xs) ys h k off on = rises_from x xs h off.0 (λ zs z. rises_merged xs zs (second _ _ h) z off.1) ys k on

-- ---- the members of a set, in order

abbrev nothing : Unit {0}
nothing = tt

any_in_order : (s : set.FinSet handle_cmp) (q : List ℕ) → list_any (same_handle q) (in_order s) ≡ set.contains s q
any_in_order s q =
    sym (finite.contains_key-keys (finite.from_entries {R = handle_cmp} (map key (set.items s))) q)
    ∙ ap is_some (finite.get-from_entries handle_total (map key (set.items s)) q ∙ find-keys q (set.items s))
    ∙ is_there (list_any (same_handle q) (set.items s)) ∙ sym (set.contains-items s q)
  where
    is_there : (b : Bool) → is_some (cond b (Some nothing) None) ≡ b
    is_there true = refl
    is_there false = refl

rises_in_order : (s : set.FinSet handle_cmp) → T (rises (in_order s))
rises_in_order s =
    let m = finite.from_entries {R = handle_cmp} (map key (set.items s)) in
    subst (λ es. T (is_sorted handle_cmp es)) (sym (rekeyed (finite.entries m))) (finite.entries_sorted m)
  where
    rekeyed : (es : List (List ℕ × Unit {0})) → map key (map (λ e. e.0) es) ≡ es
    rekeyed [] = refl
    rekeyed (e ∷ es) = ap (λ fs. e ∷ fs) (rekeyed es)

all_of : (P : List ℕ → Type 0) (hs : List (List ℕ)) → ((q : List ℕ) → list_any (same_handle q) hs ≡ true → P q) → AllByRecursion P hs
all_of P [] f = tt
all_of P (h ∷ hs) f = (f h (ap (λ b. b || list_any (same_handle h) hs) (handle_itself h)), all_of P hs (λ q e. f q (ap (λ b. same_handle q h || b) e ∙ or_true (same_handle q h))))

-- the set whose members are those of a list that rises is that list in order
in_order_is : (s : set.FinSet handle_cmp) (hs : List (List ℕ)) → T (rises hs) → ((q : List ℕ) → set.contains s q ≡ list_any (same_handle q) hs) → hs ≡ in_order s
in_order_is s hs rising is =
    let same : finite.from_entries {R = handle_cmp} (map key (set.items s)) ≡ finite.from_sorted (map key hs) =
    finite.same_map handle_total handle_antisymmetric _ _ (λ q.
    finite.get-from_entries handle_total (map key (set.items s)) q ∙ find-keys q (set.items s)
    ∙ ap (λ b. cond b (Some nothing) None) (sym (set.contains-items s q) ∙ is q)
    ∙ sym (finite.get-from_sorted handle_cmp (map key hs) q rising ∙ find-keys q hs)) in
    sym (ap finite.keys same ∙ ap (map (λ e. e.0)) (finite.entries-from_sorted handle_cmp (map key hs) rising) ∙ unkeyed hs)
  where
    unkeyed : (gs : List (List ℕ)) → map (λ e. e.0) (map key gs) ≡ gs
    unkeyed [] = refl
    unkeyed (g ∷ gs) = ap (λ fs. g ∷ fs) (unkeyed gs)

-- the handles of an authority
abbrev listed_by : List ℕ → Table → set.FinSet handle_cmp
listed_by a s = set.retain s.handles (λ h. same_handle (authority h) a)

pub names_joined : (is : List ℕ → Bool) (t u : Table) (a : List ℕ) → own is false t ≡ t.handles → own is true u ≡ u.handles → merged (names_of t a) (names_of u a) ≡ names_of (joined is t u) a
names_joined is t u a first_own second_own =
    in_order_is (listed_by a (joined is t u)) (merged (names_of t a) (names_of u a))
    (rises_merged is (names_of t a) (names_of u a) (rises_in_order (listed_by a t)) (rises_in_order (listed_by a u))
    (all_of _ _ (λ q e. off (has t q) (same_handle (authority q) a) (is q) (sym (contains_own is false t q) ∙ ap (λ s. set.contains s q) first_own) (sym (listed_has t q) ∙ sym (any_in_order (listed_by a t) q) ∙ e)))
    (all_of _ _ (λ q e. on_second (has u q) (same_handle (authority q) a) (is q) (sym (contains_own is true u q) ∙ ap (λ s. set.contains s q) second_own) (sym (listed_has u q) ∙ sym (any_in_order (listed_by a u) q) ∙ e))))
    (λ q. listed_has (joined is t u) q
    ∙ ap (λ b. b && same_handle (authority q) a) (set.contains-union handle_total (own is false t) (own is true u) q ∙ (λ i. set.contains (first_own i) q || set.contains (second_own i) q))
    ∙ spread (has t q) (has u q) (same_handle (authority q) a)
    ∙ sym (any_merged q (names_of t a) (names_of u a) ∙ (λ i. (any_in_order (listed_by a t) q ∙ listed_has t q) i || (any_in_order (listed_by a u) q ∙ listed_has u q) i)))
  where
    listed_has : (s : Table) (q : List ℕ) → set.contains (listed_by a s) q ≡ (has s q && same_handle (authority q) a)
    listed_has s q = set.contains-retain s.handles (λ h. same_handle (authority h) a) q (λ x e. ap (λ (h : List ℕ). same_handle (authority h) a) (sym (handle_antisymmetric q x e)))

    spread : (x y f : Bool) → ((x || y) && f) ≡ ((x && f) || (y && f))
    spread true y true = refl
    spread true true false = refl
    spread true false false = refl
    spread false y f = refl

    off : (x f i : Bool) → (x && not i) ≡ x → (x && f) ≡ true → i ≡ false
    off true f true e k = absurd (true≢false (sym e))
    off true f false e k = refl
    off false f i e k = absurd (true≢false (sym k))

    on_second : (x f i : Bool) → (x && i) ≡ x → (x && f) ≡ true → i ≡ true
    on_second true f i e k = e
    on_second false f i e k = absurd (true≢false (sym k))
