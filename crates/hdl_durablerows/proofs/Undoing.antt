-- A write, and then its inverse, leave a table as it was.
use Rattle.std.proofs.Common.{◌≡◌, ◌≢◌, ℕ, List, [], ◌∷◌, map, Bool, true, false, cond, ◌||◌, T, Option, Some, None, refl, sym, ap, ◌∙◌, subst, Ordering, Equal, is_eq, is_lt, true≢false, unwrap_or, ◌==◌}
use Rattle.std.specs.Ordering.{nat_cmp, eq_by_cmp}
use Rattle.std.specs.Cmp.{IsTotalOrder, tied_itself}
use Rattle.std.specs.List.{AllByRecursion, list_any, filter_map, cons_option}
use Rattle.std.specs.FinMap as map
use Rattle.std.specs.FinMap.{find, is_sorted, nat_cmp-IsAntisymmetric}
use Rattle.std.specs.FinMap.Entries.{below_all}
use Rattle.hdl_value.specs.Place.{Place, place_cmp, same_handle}
use Rattle.hdl_value.specs.declared.value.Value.{Value}
use Rattle.hdl_value.proofs.Places.{place_total, place_antisymmetric, handles_equal, handle_itself, tied}
use Rattle.hdl_rows.specs.Table.{Table, place, has, at, values_of, with_values, without_values, AreDistinct, AreAbsent, ArePresent, indexes, IsPlaced, value_with, HaveTheirIndexes}
use Rattle.hdl_rows.specs.Write.{Write, Create, Add, Modify, Remove, Delete, handle_of, after_write, CanWrite}
use Rattle.hdl_rows.proofs.Writes.{same_look_ups_lem, some_none, at_place, put_at, removed_at, at_after, has_after, at-after_write, has-after_write, put_stands_lem, removed_are_gone_lem, created_is_there_lem, deleted_is_gone_lem}
use Rattle.hdl_rows.proofs.ShelfLemmas.{first, second, less, index_test}
use Rattle.hdl_durablerows.specs.Inverse.{values_at, inverse, AreAtOwnIndexes, HasOwnIndexes, IsUndo}

-- ---- what stands at one index of the handle

-- the index is one of these
abbrev among : ℕ → List ℕ → Bool
among i is = list_any (λ j. is_eq (nat_cmp i j)) is

same_index : (i j : ℕ) → is_eq (nat_cmp i j) ≡ true → i ≡ j
same_index i j e = nat_cmp-IsAntisymmetric i j (tied _ e)

removed-none : (is : List ℕ) (i : ℕ) → removed_at is i None ≡ None
removed-none [] i = refl
removed-none (j ∷ js) i = ap (removed_at js i) (none (is_eq (nat_cmp i j))) ∙ removed-none js i
  where
    none : (b : Bool) → ◌≡◌ {A = Option Value} (cond b None None) None
    none true = refl
    none false = refl

-- what was added where nothing stood, and then removed
undo_add : (vs : List Value) (i : ℕ) (x : Option Value) → AllByRecursion (λ j. i ≡ j → x ≡ None) (indexes vs) → removed_at (indexes vs) i (put_at vs i x) ≡ x
undo_add [] i x absent = refl
undo_add (v ∷ vs) i x absent = by_test (is_eq (nat_cmp i v.index)) refl (undo_add vs i x absent.1)
  where
    by_test : (b : Bool) → is_eq (nat_cmp i v.index) ≡ b → removed_at (indexes vs) i (put_at vs i x) ≡ x → removed_at (indexes vs) i (cond b None (put_at vs i (cond b (Some v) x))) ≡ x
    by_test true e rest = removed-none (indexes vs) i ∙ sym (absent.0 (same_index i v.index e))
    by_test false e rest = rest

-- what was put or removed at other indexes
put_elsewhere : (vs : List Value) (i : ℕ) (x : Option Value) → among i (indexes vs) ≡ false → put_at vs i x ≡ x
put_elsewhere [] i x e = refl
put_elsewhere (v ∷ vs) i x e = by_test (is_eq (nat_cmp i v.index)) e (put_elsewhere vs i x)
  where
    by_test : (b : Bool) → (b || among i (indexes vs)) ≡ false → (among i (indexes vs) ≡ false → put_at vs i x ≡ x) → put_at vs i (cond b (Some v) x) ≡ x
    by_test true e rest = absurd (true≢false e)
    by_test false e rest = rest e

removed_elsewhere : (is : List ℕ) (i : ℕ) (x : Option Value) → among i is ≡ false → removed_at is i x ≡ x
removed_elsewhere [] i x e = refl
removed_elsewhere (j ∷ js) i x e = by_test (is_eq (nat_cmp i j)) e (removed_elsewhere js i x)
  where
    by_test : (b : Bool) → (b || among i js) ≡ false → (among i js ≡ false → removed_at js i x ≡ x) → removed_at js i (cond b None x) ≡ x
    by_test true e rest = absurd (true≢false e)
    by_test false e rest = rest e

-- ---- the old values of some indexes

module _ (old : ℕ → Option Value) (own : (i : ℕ) (v : Value) → old i ≡ Some v → v.index ≡ i) where
  abbrev Stand : List ℕ → Type 0
  Stand = AllByRecursion (λ i. old i ≢ None)

  -- they have these indexes
  indexes_of_old : (is : List ℕ) → Stand is → indexes (filter_map old is) ≡ is
  indexes_of_old [] stand = refl
  indexes_of_old (j ∷ js) stand = by (old j) refl (indexes_of_old js stand.1)
    where
      by : (o : Option Value) → old j ≡ o → indexes (filter_map old js) ≡ js → indexes (filter_map old (j ∷ js)) ≡ j ∷ js
      by None e rest = absurd (stand.0 e)
      by (Some v) e rest = ap (λ o. indexes (cons_option o (filter_map old js))) e ∙ (λ k. own j v e k ∷ rest k)

  -- put back, they stand where they stood, and all else stays
  put_back : (is : List ℕ) (i : ℕ) (x : Option Value) → Stand is → put_at (filter_map old is) i x ≡ cond (among i is) (old i) x
  put_back [] i x stand = refl
  put_back (j ∷ js) i x stand = by (old j) refl (λ y. put_back js i y stand.1)
    where
      pick : (v : Value) → old j ≡ Some v → (a b : Bool) → is_eq (nat_cmp i j) ≡ a → cond b (old i) (cond a (Some v) x) ≡ cond (a || b) (old i) x
      pick v e true true same = refl
      pick v e true false same = sym (ap old (same_index i j same) ∙ e)
      pick v e false b same = refl

      by : (o : Option Value) → old j ≡ o → ((y : Option Value) → put_at (filter_map old js) i y ≡ cond (among i js) (old i) y) → put_at (filter_map old (j ∷ js)) i x ≡ cond (among i (j ∷ js)) (old i) x
      by None e rest = absurd (stand.0 e)
      by (Some v) e rest =
          ap (λ o. put_at (cons_option o (filter_map old js)) i x) e
          ∙ rest (cond (is_eq (nat_cmp i v.index)) (Some v) x)
          ∙ ap (λ n. cond (among i js) (old i) (cond (is_eq (nat_cmp i n)) (Some v) x)) (own j v e)
          ∙ pick v e (is_eq (nat_cmp i j)) (among i js) refl

  -- over what other values, or none, left of them
  modified_back : (vs : List Value) (i : ℕ) → Stand (indexes vs) → put_at (filter_map old (indexes vs)) i (put_at vs i (old i)) ≡ old i
  modified_back vs i stand = put_back (indexes vs) i (put_at vs i (old i)) stand ∙ pick (among i (indexes vs)) refl
    where
      pick : (b : Bool) → among i (indexes vs) ≡ b → cond b (old i) (put_at vs i (old i)) ≡ old i
      pick true e = refl
      pick false e = put_elsewhere vs i (old i) e

  removed_back : (is : List ℕ) (i : ℕ) → Stand is → put_at (filter_map old is) i (removed_at is i (old i)) ≡ old i
  removed_back is i stand = put_back is i (removed_at is i (old i)) stand ∙ pick (among i is) refl
    where
      pick : (b : Bool) → among i is ≡ b → cond b (old i) (removed_at is i (old i)) ≡ old i
      pick true e = refl
      pick false e = removed_elsewhere is i (old i) e

-- ---- entries in order: each is found by its key

module _ {K X : Type 0} {R : K → K → Ordering} (o : IsTotalOrder R) where
  find_tied_below : (q k : K) (es : List (K × X)) → R q k ≡ Equal → T (below_all R k es) → find R q es ≡ None
  find_tied_below q k [] t h = refl
  find_tied_below q k (e ∷ es) t h =
      ap (λ r. cond (is_eq r) (Some e.1) (find R q es)) (o.congr q k e.0 t ∙ less _ (first _ _ h)) ∙ find_tied_below q k es t (second _ _ h)

  find_later : (q : K) (v : X) (e : K × X) (es : List (K × X)) → T (below_all R e.0 es) → find R q es ≡ Some v → (b : Bool) → eq_by_cmp R q e.0 ≡ b → cond b (Some e.1) (find R q es) ≡ Some v
  find_later q v e es h is true t = absurd (some_none v (sym is ∙ find_tied_below q e.0 es (tied _ t) h))
  find_later q v e es h is false t = is

  each_entry : (P : K × X → Type 0) (es : List (K × X)) → T (is_sorted R es) → ((q : K) (v : X) → find R q es ≡ Some v → P (q, v)) → AllByRecursion P es
  each_entry P [] h f = tt
  each_entry P (e ∷ es) h f = (
    f e.0 e.1 (ap (λ r. cond (is_eq r) (Some e.1) (find R e.0 es)) (tied_itself o e.0)),
    each_entry P es (second _ _ h) (λ q v is. f q v (find_later q v e es (first _ _ h) is _ refl)),
  )

-- ---- the values of a handle

-- a value of the handle, at its own index
abbrev IsOwn : List ℕ → Place × Value → Type 0
IsOwn h e = (e.0.handle ≡ h) × (e.1.index ≡ e.0.index)

abbrev or_else : Option Value → Option Value → Option Value
or_else (Some v) x = Some v
or_else None x = x

-- put one by one, each stands where its entry does
put_entries : (h : List ℕ) (es : List (Place × Value)) → T (is_sorted place_cmp es) → AllByRecursion (IsOwn h) es → (i : ℕ) (x : Option Value) → put_at (map (λ e. e.1) es) i x ≡ or_else (find place_cmp (place h i) es) x
put_entries h [] sorted own i x = refl
put_entries h (e ∷ es) sorted own i x =
    put_entries h es (second _ _ sorted) own.1 i (cond (is_eq (nat_cmp i e.1.index)) (Some e.1) x)
    ∙ ap (λ b. or_else (find place_cmp (place h i) es) (cond b (Some e.1) x)) test
    ∙ by_test (eq_by_cmp place_cmp (place h i) e.0) refl
  where
    test : is_eq (nat_cmp i e.1.index) ≡ eq_by_cmp place_cmp (place h i) e.0
    test =
        ap (λ n. is_eq (nat_cmp i n)) own.0.1
        ∙ sym (at_place (place h i) h e.0.index ∙ ap (λ b. cond b (is_eq (nat_cmp i e.0.index)) false) (handle_itself h))
        ∙ ap (λ (g : List ℕ). eq_by_cmp place_cmp (place h i) (place g e.0.index)) (sym own.0.0)

    by_test : (b : Bool) → eq_by_cmp place_cmp (place h i) e.0 ≡ b → or_else (find place_cmp (place h i) es) (cond b (Some e.1) x) ≡ or_else (cond b (Some e.1) (find place_cmp (place h i) es)) x
    by_test true same = ap (λ y. or_else y (Some e.1)) (find_tied_below place_total (place h i) e.0 es (tied _ same) (first _ _ sorted))
    by_test false same = refl

-- no two of them have one index
other_indexes : (h : List ℕ) (e : Place × Value) (es : List (Place × Value)) → T (below_all place_cmp e.0 es) → IsOwn h e → AllByRecursion (IsOwn h) es → AllByRecursion (λ j. e.1.index ≢ j) (indexes (map (λ e. e.1) es))
other_indexes h e [] below mine own = tt
other_indexes h e (f ∷ fs) below mine own = (λ same. apart same, other_indexes h e fs (second _ _ below) mine own.1)
  where
    apart : e.1.index ≢ f.1.index
    apart same =
        let one : e.0 ≡ f.0 = (λ k. place ((mine.0 ∙ sym own.0.0) k) ((sym mine.1 ∙ same ∙ own.0.1) k)) in
        subst T (ap is_lt (ap (place_cmp e.0) (sym one) ∙ tied_itself place_total e.0)) (first _ _ below)

distinct_entries : (h : List ℕ) (es : List (Place × Value)) → T (is_sorted place_cmp es) → AllByRecursion (IsOwn h) es → AreDistinct (indexes (map (λ e. e.1) es))
distinct_entries h [] sorted own = tt
distinct_entries h (e ∷ es) sorted own = (other_indexes h e es (first _ _ sorted) own.0 own.1, distinct_entries h es (second _ _ sorted) own.1)

module _ (t : Table) (h : List ℕ) where
  abbrev kept : map.FinMap place_cmp Value
  kept = map.retain_keys t.values (λ q. same_handle q.handle h)

  find-kept : (p : Place) → find place_cmp p (map.entries kept) ≡ cond (same_handle p.handle h) (at t p) None
  find-kept p = sym (map.get-entries kept p) ∙ map.get-retain_keys t.values (λ q. same_handle q.handle h) p (λ q e. ap (λ (r : Place). same_handle r.handle h) (sym (place_antisymmetric p q e)))

  kept_own : AreAtOwnIndexes t h → AllByRecursion (IsOwn h) (map.entries kept)
  kept_own own = each_entry place_total (IsOwn h) (map.entries kept) (map.entries_sorted kept) (λ p v e. by_test p v (same_handle p.handle h) refl (sym (find-kept p) ∙ e))
    where
      by_test : (p : Place) (v : Value) (b : Bool) → same_handle p.handle h ≡ b → cond b (at t p) None ≡ Some v → IsOwn h (p, v)
      by_test p v true is e =
          let same : p.handle ≡ h = handles_equal p.handle h is in
          (same, own p.index v (ap (λ (g : List ℕ). at t (place g p.index)) (sym same) ∙ e))
      by_test p v false is e = absurd (some_none v (sym e))

  -- put where nothing stands, they stand where they stood
  values_back : AreAtOwnIndexes t h → (i : ℕ) → put_at (values_of t h) i None ≡ at t (place h i)
  values_back own i =
      put_entries h (map.entries kept) (map.entries_sorted kept) (kept_own own) i None
      ∙ ap (λ x. or_else x None) (find-kept (place h i) ∙ ap (λ b. cond b (at t (place h i)) None) (handle_itself h))
      ∙ or_none (at t (place h i))
    where
      or_none : (x : Option Value) → or_else x None ≡ x
      or_none None = refl
      or_none (Some v) = refl

  distinct_values : AreAtOwnIndexes t h → AreDistinct (indexes (values_of t h))
  distinct_values own = distinct_entries h (map.entries kept) (map.entries_sorted kept) (kept_own own)

-- ---- a write, and then its inverse

each : {X : Type 0} (P Q : X → Type 0) (xs : List X) → ((x : X) → P x → Q x) → AllByRecursion P xs → AllByRecursion Q xs
each P Q [] f all = tt
each P Q (x ∷ xs) f all = (f x all.0, each P Q xs f all.1)

-- what the inverse of a write reads is at its own index
abbrev pub ReadsOwn : Table → Write → Type 0
ReadsOwn t (Create h vs) = Unit {0}
ReadsOwn t (Add h vs) = Unit {0}
ReadsOwn t (Modify h vs) = AreAtOwnIndexes t h
ReadsOwn t (Remove h is) = AreAtOwnIndexes t h
ReadsOwn t (Delete h) = AreAtOwnIndexes t h

reads_own : (t : Table) (w : Write) → AreAtOwnIndexes t (handle_of w) → ReadsOwn t w
reads_own t (Create h vs) own = tt
reads_own t (Add h vs) own = tt
reads_own t (Modify h vs) own = own
reads_own t (Remove h is) own = own
reads_own t (Delete h) own = own

one_handle : (t : Table) (w : Write) → handle_of (inverse t w) ≡ handle_of w
one_handle t (Create h vs) = refl
one_handle t (Add h vs) = refl
one_handle t (Modify h vs) = refl
one_handle t (Remove h is) = refl
one_handle t (Delete h) = refl

-- nothing stands at a handle that is absent
none_at_absent : (t : Table) (h : List ℕ) (i : ℕ) → IsPlaced t → has t h ≡ false → at t (place h i) ≡ None
none_at_absent t h i placed absent = by (at t (place h i)) refl
  where
    by : (x : Option Value) → at t (place h i) ≡ x → x ≡ None
    by None e = refl
    by (Some v) e = absurd (true≢false (sym (placed (place h i) v e) ∙ absent))

value_undone : (t : Table) (w : Write) → IsPlaced t → ReadsOwn t w → CanWrite t w → (i : ℕ)
    → at_after (inverse t w) i (at_after w i (at t (place (handle_of w) i))) ≡ at t (place (handle_of w) i)
value_undone t (Create h vs) placed own can i = sym (none_at_absent t h i placed can.0)
value_undone t (Add h vs) placed own can i = undo_add vs i (at t (place h i)) (each _ _ (indexes vs) (λ j none same. ap (λ n. at t (place h n)) same ∙ none) can.2)
value_undone t (Modify h vs) placed own can i = modified_back (λ j. at t (place h j)) own vs i can.2
value_undone t (Remove h is) placed own can i = removed_back (λ j. at t (place h j)) own is i can.2
value_undone t (Delete h) placed own can i = values_back t h own i

handle_undone : (t : Table) (w : Write) → CanWrite t w → has_after (inverse t w) (has_after w (has t (handle_of w))) ≡ has t (handle_of w)
handle_undone t (Create h vs) can = sym can.0
handle_undone t (Add h vs) can = refl
handle_undone t (Modify h vs) can = refl
handle_undone t (Remove h is) can = refl
handle_undone t (Delete h) can = sym can

back_after : (t : Table) (w : Write) → IsPlaced t → ReadsOwn t w → CanWrite t w → after_write (after_write t w) (inverse t w) ≡ t
back_after t w placed own can = same_look_ups_lem (after_write (after_write t w) (inverse t w)) t handles values
  where
    handles : (g : List ℕ) → has (after_write (after_write t w) (inverse t w)) g ≡ has t g
    handles g =
        has-after_write (after_write t w) (inverse t w) g
        ∙ ap (λ k. cond (same_handle g k) (has_after (inverse t w) (has (after_write t w) g)) (has (after_write t w) g)) (one_handle t w)
        ∙ ap (λ b. cond (same_handle g (handle_of w)) (has_after (inverse t w) b) b) (has-after_write t w g)
        ∙ by_test (same_handle g (handle_of w)) refl
      where
        by_test : (b : Bool) → same_handle g (handle_of w) ≡ b → cond b (has_after (inverse t w) (cond b (has_after w (has t g)) (has t g))) (cond b (has_after w (has t g)) (has t g)) ≡ has t g
        by_test true is =
            let same : g ≡ handle_of w = handles_equal g (handle_of w) is in
            ap (λ (k : List ℕ). has_after (inverse t w) (has_after w (has t k))) same ∙ handle_undone t w can ∙ ap (has t) (sym same)
        by_test false is = refl

    values : (p : Place) → at (after_write (after_write t w) (inverse t w)) p ≡ at t p
    values p =
        at-after_write (after_write t w) (inverse t w) p
        ∙ ap (λ k. cond (same_handle p.handle k) (at_after (inverse t w) p.index (at (after_write t w) p)) (at (after_write t w) p)) (one_handle t w)
        ∙ ap (λ x. cond (same_handle p.handle (handle_of w)) (at_after (inverse t w) p.index x) x) (at-after_write t w p)
        ∙ by_test (same_handle p.handle (handle_of w)) refl
      where
        by_test : (b : Bool) → same_handle p.handle (handle_of w) ≡ b
            → cond b (at_after (inverse t w) p.index (cond b (at_after w p.index (at t p)) (at t p))) (cond b (at_after w p.index (at t p)) (at t p)) ≡ at t p
        by_test true is =
            let same : p.handle ≡ handle_of w = handles_equal p.handle (handle_of w) is in
            ap (λ (g : List ℕ). at_after (inverse t w) p.index (at_after w p.index (at t (place g p.index)))) same
            ∙ value_undone t w placed own can p.index
            ∙ ap (λ (g : List ℕ). at t (place g p.index)) (sym same)
        by_test false is = refl

-- ---- the inverse is allowed

-- values that were put stand at their indexes
present_once_put : (t : Table) (h : List ℕ) (vs : List Value) → AreDistinct (indexes vs) → ArePresent (with_values t h vs) h (indexes vs)
present_once_put t h vs distinct = by_index vs (put_stands_lem t h vs distinct)
  where
    by_index : (ws : List Value) → AllByRecursion (λ v. at (with_values t h vs) (place h v.index) ≡ Some v) ws → ArePresent (with_values t h vs) h (indexes ws)
    by_index [] all = tt
    by_index (v ∷ ws) all = (λ none. some_none v (sym all.0 ∙ none), by_index ws all.1)

allowed_after : (t : Table) (w : Write) → ReadsOwn t w → CanWrite t w → CanWrite (after_write t w) (inverse t w)
allowed_after t (Create h vs) own can = (created_is_there_lem t h vs can.1).0
allowed_after t (Add h vs) own can = (can.0, can.1, present_once_put t h vs can.1)
allowed_after t (Modify h vs) own can =
    let same : indexes (values_at t h (indexes vs)) ≡ indexes vs = indexes_of_old (λ j. at t (place h j)) own (indexes vs) can.2 in
    (can.0, subst AreDistinct (sym same) can.1, subst (ArePresent (with_values t h vs) h) (sym same) (present_once_put t h vs can.1))
allowed_after t (Remove h is) own can =
    let same : indexes (values_at t h is) ≡ is = indexes_of_old (λ j. at t (place h j)) own is can.2 in
    (can.0, subst AreDistinct (sym same) can.1, subst (AreAbsent (without_values t h is) h) (sym same) (removed_are_gone_lem t h is))
allowed_after t (Delete h) own can = ((deleted_is_gone_lem t h).0, distinct_values t h own)

-- ---- the laws

pub can_undo : (t : Table) (w : Write) → AreAtOwnIndexes t (handle_of w) → CanWrite t w → CanWrite (after_write t w) (inverse t w)
can_undo t w own can = allowed_after t w (reads_own t w own) can

pub undone : (t : Table) (w : Write) → IsPlaced t → AreAtOwnIndexes t (handle_of w) → CanWrite t w → after_write (after_write t w) (inverse t w) ≡ t
undone t w placed own can = back_after t w placed (reads_own t w own) can

-- ---- values stay at their own indexes

put_own : (vs : List Value) (i : ℕ) (x : Option Value) (v : Value) → ((y : Value) → x ≡ Some y → y.index ≡ i) → put_at vs i x ≡ Some v → v.index ≡ i
put_own [] i x v own e = own v e
put_own (w ∷ vs) i x v own e = put_own vs i (cond (is_eq (nat_cmp i w.index)) (Some w) x) v (λ y k. chosen (is_eq (nat_cmp i w.index)) refl y k) e
  where
    chosen : (b : Bool) → is_eq (nat_cmp i w.index) ≡ b → (y : Value) → cond b (Some w) x ≡ Some y → y.index ≡ i
    chosen true same y k = ap (λ (o : Option Value). (unwrap_or o y).index) (sym k) ∙ sym (same_index i w.index same)
    chosen false same y k = own y k

removed_own : (is : List ℕ) (i : ℕ) (x : Option Value) (v : Value) → ((y : Value) → x ≡ Some y → y.index ≡ i) → removed_at is i x ≡ Some v → v.index ≡ i
removed_own [] i x v own e = own v e
removed_own (j ∷ js) i x v own e = removed_own js i (cond (is_eq (nat_cmp i j)) None x) v (λ y k. left (is_eq (nat_cmp i j)) y k) e
  where
    left : (b : Bool) (y : Value) → cond b None x ≡ Some y → y.index ≡ i
    left true y k = absurd (some_none y (sym k))
    left false y k = own y k

after_own : (w : Write) (i : ℕ) (x : Option Value) (v : Value) → ((y : Value) → x ≡ Some y → y.index ≡ i) → at_after w i x ≡ Some v → v.index ≡ i
after_own (Create h vs) i x v own e = put_own vs i x v own e
after_own (Add h vs) i x v own e = put_own vs i x v own e
after_own (Modify h vs) i x v own e = put_own vs i x v own e
after_own (Remove h is) i x v own e = removed_own is i x v own e
after_own (Delete h) i x v own e = absurd (some_none v (sym e))

pub own_indexes_stay : (t : Table) (w : Write) → HasOwnIndexes t → HasOwnIndexes (after_write t w)
own_indexes_stay t w own h i v e = by_test (same_handle h (handle_of w)) (sym (at-after_write t w (place h i)) ∙ e)
  where
    by_test : (b : Bool) → cond b (at_after w i (at t (place h i))) (at t (place h i)) ≡ Some v → v.index ≡ i
    by_test true k = after_own w i (at t (place h i)) v (own h i) k
    by_test false k = own h i v k

-- ---- what is read of a table

with_own_index : (vs : List Value) (i : ℕ) (v : Value) → value_with i vs ≡ Some v → v.index ≡ i
with_own_index [] i v e = absurd (some_none v (sym e))
with_own_index (w ∷ ws) i v e = by_test (w.index == i) refl e (with_own_index ws i v)
  where
    by_test : (b : Bool) → (w.index == i) ≡ b → cond b (Some w) (value_with i ws) ≡ Some v → (value_with i ws ≡ Some v → v.index ≡ i) → v.index ≡ i
    by_test true same e rest = ap (λ (o : Option Value). (unwrap_or o v).index) (sym e) ∙ sym (same_index i w.index (index_test i w.index ∙ same))
    by_test false other e rest = rest e

-- what a look gives tells that the values of the handle stand at their own indexes
pub own_by_look : (t : Table) (h : List ℕ) (vs : List Value) → HaveTheirIndexes t h vs → AreAtOwnIndexes t h
own_by_look t h vs there i v e = with_own_index vs i v (there i ∙ e)

-- the inverse that was read undoes the write
pub undoes : (t : Table) (w v back : Write) → w ≡ v → ReadsOwn t v → back ≡ inverse t v → IsPlaced t → CanWrite t w → IsUndo t w back
undoes t w v back is own read placed can = subst (λ (x : Write). IsUndo t x back) (sym is) (subst (IsUndo t v) (sym read) (allowed_after t v own here, back_after t v placed own here))
  where
    here : CanWrite t v
    here = subst (CanWrite t) is can
