-- The table that rows in order are: what it answers, and what a change of the rows makes of it.
use Rattle.std.proofs.Common.{◌≡◌, ℕ, List, [], ◌∷◌, ◌++◌, map, filter, unwrap_or, Bool, true, false, cond, not, ◌&&◌, ◌||◌, T, Option, Some, None, ◌==◌, refl, sym, ap, ◌∙◌, subst, arith, Ordering, Less, Equal, Greater, is_eq, is_lt, IsTrue, is_some, ◌↔◌, true≢false}
use Rattle.std.specs.Ordering.{nat_cmp, eq_by_cmp, ordering_then}
use Rattle.std.specs.Cmp.{nat_cmp_total, tied_itself}
use Rattle.std.specs.List.{AllByRecursion, flat_map, list_any}
use Rattle.std.specs.FinMap as map
use Rattle.std.specs.FinMap.{find, put, is_sorted, nat_cmp-IsAntisymmetric}
use Rattle.std.specs.FinMap.Entries.{where_key, below_all, is_some-find, find-put, is_sorted-put, find-where_key, is_sorted-where_key}
use Rattle.std.specs.FinSet as set
use Rattle.std.proofs.lemmas.Bool.Decides.{nat_tests}
use Rattle.hdl_name.specs.Name.{authority}
use Rattle.hdl_value.specs.Place.{Place, handle_cmp, place_cmp, same_handle}
use Rattle.hdl_value.specs.declared.value.Value.{Value}
use Rattle.hdl_value.proofs.Places.{handle_total, handle_antisymmetric, place_total, place_antisymmetric, tied, handles_equal, handle_itself}
use Rattle.hdl_rows.specs.Table.{place, has, at, values_of, names_of, value_with, HaveTheirIndexes, key}
use Rattle.hdl_rows.specs.Write.{Write, handle_of, after_write}
use Rattle.hdl_rows.specs.RowStore.{by_index, by_place, table_of, AreInOrder, put_all}
use Rattle.hdl_rows.proofs.Writes.{same_look_ups_lem, at-after_write, has-after_write, at_place, put_at, removed_at, at_after, has_after, some_none, apart}

pub index_test : (i j : ℕ) → is_eq (nat_cmp i j) ≡ (j == i)
index_test i j = grind (arith, nat_tests)

abbrev Rows : Type 0
Rows = List (List ℕ × List Value)

pub both : (a b : Bool) → T a → T b → T (a && b)
both true b p q = q
both false b p q = p

pub first : (a b : Bool) → T (a && b) → T a
first true b p = tt
first false b p = p

pub second : (a b : Bool) → T (a && b) → T b
second true b p = p
second false b p = absurd p

pub holds : (b : Bool) → T b → b ≡ true
holds true p = refl
holds false p = absurd p

pub less : (o : Ordering) → T (is_lt o) → o ≡ Less
less Less p = refl
less Equal p = absurd p
less Greater p = absurd p

-- a key that ties with one below all is not found
pub none_below : (h g : List ℕ) (es : Rows) → same_handle h g ≡ true → T (below_all handle_cmp g es) → find handle_cmp h es ≡ None
none_below h g [] e below = refl
none_below h g (f ∷ es) e below =
    ap (λ o. cond (is_eq o) (Some f.1) (find handle_cmp h es)) (handle_total.congr h g f.0 (tied _ e) ∙ less _ (first _ _ below)) ∙ none_below h g es e (second _ _ below)

-- ---- look-ups

-- the value at an index, where values stand
abbrev pub within : Option (List Value) → ℕ → Option Value
within None i = None
within (Some vs) i = find nat_cmp i (by_index vs)

find-append_none : (p : Place) (es fs : List (Place × Value)) → find place_cmp p es ≡ None → find place_cmp p (es ++ fs) ≡ find place_cmp p fs
find-append_none p [] fs none = refl
find-append_none p (e ∷ es) fs none =
    elim (eq_by_cmp place_cmp p e.0) as (λ b. cond b (Some e.1) (find place_cmp p es) ≡ None → cond b (Some e.1) (find place_cmp p (es ++ fs)) ≡ find place_cmp p fs) [
      | true ↦ λ h. absurd (some_none e.1 h)
      | false ↦ λ h. find-append_none p es fs h
    ] none

find-append_end : (p : Place) (es fs : List (Place × Value)) → find place_cmp p fs ≡ None → find place_cmp p (es ++ fs) ≡ find place_cmp p es
find-append_end p [] fs none = none
find-append_end p (e ∷ es) fs none = ap (cond (eq_by_cmp place_cmp p e.0) (Some e.1)) (find-append_end p es fs none)

never : (b : Bool) → ◌≡◌ {A = Option Value} None (cond b None None)
never true = refl
never false = refl

find-by_place : (p : Place) (h : List ℕ) (vs : List Value) → find place_cmp p (by_place (h, vs)) ≡ cond (same_handle p.handle h) (find nat_cmp p.index (by_index vs)) None
find-by_place p h [] = never (same_handle p.handle h)
find-by_place p h (v ∷ vs) =
    ap (λ b. cond b (Some v) (find place_cmp p (by_place (h, vs)))) (at_place p h v.index)
    ∙ ap (cond (cond (same_handle p.handle h) (is_eq (nat_cmp p.index v.index)) false) (Some v)) (find-by_place p h vs)
    ∙ turn (same_handle p.handle h) (is_eq (nat_cmp p.index v.index)) (find nat_cmp p.index (by_index vs))
  where
    turn : (a b : Bool) (y : Option Value) → cond (cond a b false) (Some v) (cond a y None) ≡ cond a (cond b (Some v) y) None
    turn true b y = refl
    turn false b y = refl

-- a place is looked up by its handle, and then by its index
find-places : (es : Rows) → T (is_sorted handle_cmp es) → (p : Place) → find place_cmp p (flat_map by_place es) ≡ within (find handle_cmp p.handle es) p.index
find-places [] sorted p = refl
find-places (e ∷ es) sorted p = by_test (same_handle p.handle e.0) refl (find-places es (second _ _ sorted) p)
  where
    by_test : (b : Bool) → same_handle p.handle e.0 ≡ b → find place_cmp p (flat_map by_place es) ≡ within (find handle_cmp p.handle es) p.index
        → find place_cmp p (by_place e ++ flat_map by_place es) ≡ within (cond b (Some e.1) (find handle_cmp p.handle es)) p.index
    by_test true is rest =
        let none : find place_cmp p (flat_map by_place es) ≡ None = rest ∙ ap (λ o. within o p.index) (none_below p.handle e.0 es is (first _ _ sorted)) in
        find-append_end p (by_place e) (flat_map by_place es) none ∙ find-by_place p e.0 e.1 ∙ ap (λ b. cond b (find nat_cmp p.index (by_index e.1)) None) is
    by_test false is rest =
        let none : find place_cmp p (by_place e) ≡ None = find-by_place p e.0 e.1 ∙ ap (λ b. cond b (find nat_cmp p.index (by_index e.1)) None) is in
        find-append_none p (by_place e) (flat_map by_place es) none ∙ rest

pub to_T : (b : Bool) → b ≡ true → T b
to_T b e = subst T (sym e) tt

pub at-table : (es : Rows) → IsTrue (is_sorted handle_cmp es) → (p : Place) → at (table_of es) p ≡ within (find handle_cmp p.handle es) p.index
at-table es sorted p = map.get-from_entries place_total (flat_map by_place es) p ∙ find-places es (to_T _ sorted) p

pub has-table : (es : Rows) (h : List ℕ) → has (table_of es) h ≡ is_some (find handle_cmp h es)
has-table es h = set.contains-from_list handle_total (map (λ e. e.0) es) h ∙ sym (is_some-find handle_cmp h es)

-- ---- changes of one handle

some_or : (b : Bool) (o x : Option (List Value)) → is_some (cond b o x) ≡ cond b (is_some o) (is_some x)
some_or true o x = refl
some_or false o x = refl

within_or : (b : Bool) (o x : Option (List Value)) (i : ℕ) → within (cond b o x) i ≡ cond b (within o i) (within x i)
within_or true o x i = refl
within_or false o x i = refl

gate : {X : Type 0} (b : Bool) (x y z : X) → (b ≡ true → x ≡ y) → cond b x z ≡ cond b y z
gate true x y z f = f refl
gate false x y z f = refl

-- Where the rows differ in one handle alone, and its values are those after the write, the table is the one after the write.
pub changed : (es fs : Rows) (w : Write) (o : Option (List Value)) → IsTrue (is_sorted handle_cmp es) → IsTrue (is_sorted handle_cmp fs)
    → ((q : List ℕ) → find handle_cmp q fs ≡ cond (same_handle q (handle_of w)) o (find handle_cmp q es))
    → has_after w (is_some (find handle_cmp (handle_of w) es)) ≡ is_some o
    → ((i : ℕ) → within o i ≡ at_after w i (within (find handle_cmp (handle_of w) es) i))
    → table_of fs ≡ after_write (table_of es) w
changed es fs w o sorted next found there inside =
    same_look_ups_lem (table_of fs) (after_write (table_of es) w)
    (λ q. has-table fs q ∙ ap is_some (found q) ∙ some_or (same_handle q (handle_of w)) o (find handle_cmp q es)
    ∙ gate (same_handle q (handle_of w)) _ _ _ (λ e. sym there ∙ ap (λ (h : List ℕ). has_after w (is_some (find handle_cmp h es))) (sym (handles_equal q (handle_of w) e)))
    ∙ sym (has-after_write (table_of es) w q ∙ ap (λ b. cond (same_handle q (handle_of w)) (has_after w b) b) (has-table es q)))
    (λ p. at-table fs next p ∙ ap (λ x. within x p.index) (found p.handle) ∙ within_or (same_handle p.handle (handle_of w)) o (find handle_cmp p.handle es) p.index
    ∙ gate (same_handle p.handle (handle_of w)) _ _ _ (λ e. inside p.index ∙ ap (λ (h : List ℕ). at_after w p.index (within (find handle_cmp h es) p.index)) (sym (handles_equal p.handle (handle_of w) e)))
    ∙ sym (at-after_write (table_of es) w p ∙ ap (λ x. cond (same_handle p.handle (handle_of w)) (at_after w p.index x) x) (at-table es sorted p)))

-- ---- what values in order answer

find-put_all : (es : List (ℕ × Value)) (vs : List Value) (i : ℕ) → find nat_cmp i (put_all es vs) ≡ put_at vs i (find nat_cmp i es)
find-put_all es [] i = refl
find-put_all es (v ∷ vs) i = find-put_all (put nat_cmp v.index v es) vs i ∙ ap (put_at vs i) (find-put nat_cmp nat_cmp_total i v.index v es)

sorted-put_all : (es : List (ℕ × Value)) (vs : List Value) → T (is_sorted nat_cmp es) → T (is_sorted nat_cmp (put_all es vs))
sorted-put_all es [] sorted = sorted
sorted-put_all es (v ∷ vs) sorted = sorted-put_all (put nat_cmp v.index v es) vs (is_sorted-put nat_cmp nat_cmp_total v.index v es sorted)

-- values put among those of a handle
pub values_put : (ws old vs : List Value) → by_index ws ≡ put_all (by_index old) vs → IsTrue (is_sorted nat_cmp (by_index old))
    → IsTrue (is_sorted nat_cmp (by_index ws)) × ((i : ℕ) → find nat_cmp i (by_index ws) ≡ put_at vs i (find nat_cmp i (by_index old)))
values_put ws old vs is sorted =
    (ap (is_sorted nat_cmp) is ∙ holds _ (sorted-put_all (by_index old) vs (to_T _ sorted)), λ i. ap (find nat_cmp i) is ∙ find-put_all (by_index old) vs i)

-- what is left of values
abbrev stays : List ℕ → ℕ → Bool
stays is j = not (list_any (λ i. i == j) is)

left-by_index : (is : List ℕ) (vs : List Value) → by_index (filter (λ v. stays is v.index) vs) ≡ where_key nat_cmp (stays is) (by_index vs)
left-by_index is [] = refl
left-by_index is (v ∷ vs) = pick (stays is v.index) (left-by_index is vs)
  where
    pick : (b : Bool) → by_index (filter (λ v. stays is v.index) vs) ≡ where_key nat_cmp (stays is) (by_index vs)
        → by_index (cond b (v ∷ filter (λ v. stays is v.index) vs) (filter (λ v. stays is v.index) vs)) ≡ cond b ((v.index, v) ∷ where_key nat_cmp (stays is) (by_index vs)) (where_key nat_cmp (stays is) (by_index vs))
    pick true e = ap (λ (es : List (ℕ × Value)). (v.index, v) ∷ es) e
    pick false e = e

removed_at-is : (is : List ℕ) (j : ℕ) (x : Option Value) → removed_at is j x ≡ cond (stays is j) x None
removed_at-is [] j x = refl
removed_at-is (i ∷ is) j x = removed_at-is is j _ ∙ ap (λ b. cond (stays is j) (cond b None x) None) (index_test j i) ∙ join (i == j) (list_any (λ i. i == j) is)
  where
    join : (a b : Bool) → cond (not b) (cond a None x) None ≡ cond (not (a || b)) x None
    join true true = refl
    join true false = refl
    join false true = refl
    join false false = refl

pub values_left : (ws old : List Value) (is : List ℕ) → ws ≡ filter (λ v. not (list_any (λ i. i == v.index) is)) old → IsTrue (is_sorted nat_cmp (by_index old))
    → IsTrue (is_sorted nat_cmp (by_index ws)) × ((i : ℕ) → find nat_cmp i (by_index ws) ≡ removed_at is i (find nat_cmp i (by_index old)))
values_left ws old is e sorted =
    let same : by_index ws ≡ where_key nat_cmp (stays is) (by_index old) = ap by_index e ∙ left-by_index is old in (
      ap (is_sorted nat_cmp) same ∙ holds _ (is_sorted-where_key nat_cmp (stays is) (by_index old) (to_T _ sorted)),
      λ i. ap (find nat_cmp i) same ∙ find-where_key nat_cmp (stays is) i (λ j t. ap (stays is) (sym (nat_cmp-IsAntisymmetric i j t))) (by_index old) ∙ sym (removed_at-is is i (find nat_cmp i (by_index old))),
    )

-- ---- what the rows of a handle answer when read

pub found_sorted : (h : List ℕ) (es : Rows) (vs : List Value) → AllByRecursion (λ e. IsTrue (is_sorted nat_cmp (by_index e.1))) es → find handle_cmp h es ≡ Some vs → IsTrue (is_sorted nat_cmp (by_index vs))
found_sorted h [] vs all e = absurd (some_none vs (sym e))
found_sorted h (f ∷ es) vs all e = by_test (same_handle h f.0) e (found_sorted h es vs all.1)
  where
    by_test : (b : Bool) → cond b (Some f.1) (find handle_cmp h es) ≡ Some vs → (find handle_cmp h es ≡ Some vs → IsTrue (is_sorted nat_cmp (by_index vs))) → IsTrue (is_sorted nat_cmp (by_index vs))
    by_test true e rest = ap (λ (x : Option (List Value)). is_sorted nat_cmp (by_index (unwrap_or x vs))) (sym e) ∙ all.0
    by_test false e rest = rest e

-- the values that a look-up of the handle gives, none where it is absent
abbrev pub values_there : Option (List Value) → List Value
values_there None = []
values_there (Some vs) = vs

within-is : (o : Option (List Value)) (i : ℕ) → within o i ≡ find nat_cmp i (by_index (values_there o))
within-is None i = refl
within-is (Some vs) i = refl

below-places : (h : List ℕ) (i : ℕ) (vs : List Value) → below_all place_cmp (place h i) (by_place (h, vs)) ≡ below_all nat_cmp i (by_index vs)
below-places h i [] = refl
below-places h i (v ∷ vs) = λ k. is_lt (ordering_then (tied_itself handle_total h k) (nat_cmp i v.index)) && below-places h i vs k

sorted-places : (h : List ℕ) (vs : List Value) → is_sorted place_cmp (by_place (h, vs)) ≡ is_sorted nat_cmp (by_index vs)
sorted-places h [] = refl
sorted-places h (v ∷ vs) = λ k. below-places h v.index vs k && sorted-places h vs k

values-by_place : (h : List ℕ) (vs : List Value) → map (λ e. e.1) (by_place (h, vs)) ≡ vs
values-by_place h [] = refl
values-by_place h (v ∷ vs) = ap (λ ws. v ∷ ws) (values-by_place h vs)

there_sorted : (o : Option (List Value)) → ((vs : List Value) → o ≡ Some vs → IsTrue (is_sorted nat_cmp (by_index vs))) → IsTrue (is_sorted nat_cmp (by_index (values_there o)))
there_sorted None each = refl
there_sorted (Some vs) each = each vs refl

pub values_of-table : (es : Rows) (h : List ℕ) → AreInOrder es → values_of (table_of es) h ≡ values_there (find handle_cmp h es)
values_of-table es h order =
    let vs = values_there (find handle_cmp h es) in
    let sorted : IsTrue (is_sorted nat_cmp (by_index (values_there (find handle_cmp h es)))) = there_sorted (find handle_cmp h es) (λ ws e. found_sorted h es ws order.values e) in
    let rising : T (is_sorted place_cmp (by_place (h, values_there (find handle_cmp h es)))) = to_T _ (sorted-places h (values_there (find handle_cmp h es)) ∙ sorted) in
    let same : map.retain_keys (table_of es).values (λ q. same_handle q.handle h) ≡ map.from_sorted (by_place (h, values_there (find handle_cmp h es))) =
    map.same_map place_total place_antisymmetric _ _ (λ p.
    map.get-retain_keys (table_of es).values (λ q. same_handle q.handle h) p (λ q e. ap (λ (r : Place). same_handle r.handle h) (sym (place_antisymmetric p q e)))
    ∙ ap (λ x. cond (same_handle p.handle h) x None) (at-table es order.handles p)
    ∙ gate (same_handle p.handle h) _ _ _ (λ e. ap (λ (g : List ℕ). within (find handle_cmp g es) p.index) (handles_equal p.handle h e) ∙ within-is (find handle_cmp h es) p.index)
    ∙ sym (map.get-from_sorted place_cmp (by_place (h, values_there (find handle_cmp h es))) p rising ∙ find-by_place p h (values_there (find handle_cmp h es)))) in
    ap map.values same ∙ ap (map (λ e. e.1)) (map.entries-from_sorted place_cmp (by_place (h, values_there (find handle_cmp h es))) rising) ∙ values-by_place h (values_there (find handle_cmp h es))

-- ---- the handles of an authority

abbrev names : Rows → List (List ℕ)
names es = map (λ e. e.0) es

below-names : (h : List ℕ) (es : Rows) → below_all handle_cmp h (map key (names es)) ≡ below_all handle_cmp h es
below-names h [] = refl
below-names h (e ∷ es) = ap (λ b. is_lt (handle_cmp h e.0) && b) (below-names h es)

sorted-names : (es : Rows) → is_sorted handle_cmp (map key (names es)) ≡ is_sorted handle_cmp es
sorted-names [] = refl
sorted-names (e ∷ es) = λ k. below-names e.0 es k && sorted-names es k

abbrev pub nothing : Unit {0}
nothing = tt

pub find-keys : (q : List ℕ) (hs : List (List ℕ)) → find handle_cmp q (map key hs) ≡ cond (list_any (same_handle q) hs) (Some nothing) None
find-keys q [] = refl
find-keys q (h ∷ hs) = ap (cond (same_handle q h) (Some nothing)) (find-keys q hs) ∙ join (same_handle q h) (list_any (same_handle q) hs)
  where
    join : (a b : Bool) → cond a (Some nothing) (cond b (Some nothing) None) ≡ cond (a || b) (Some nothing) None
    join true b = refl
    join false b = refl

keys-kept : (p : List ℕ → Bool) (hs : List (List ℕ)) → map (λ e. e.0) (where_key handle_cmp p (map key hs)) ≡ filter p hs
keys-kept p [] = refl
keys-kept p (h ∷ hs) = pick (p h) (keys-kept p hs)
  where
    pick : (b : Bool) → map (λ e. e.0) (where_key handle_cmp p (map key hs)) ≡ filter p hs
        → map (λ e. e.0) (cond b (key h ∷ where_key handle_cmp p (map key hs)) (where_key handle_cmp p (map key hs))) ≡ cond b (h ∷ filter p hs) (filter p hs)
    pick true e = ap (λ gs. h ∷ gs) e
    pick false e = e

pub names_of-table : (es : Rows) (a : List ℕ) → IsTrue (is_sorted handle_cmp es) → names_of (table_of es) a ≡ filter (λ h. same_handle (authority h) a) (names es)
names_of-table es a sorted =
    let of = λ (h : List ℕ). same_handle (authority h) a in
    let kept = set.retain (table_of es).handles (λ h. same_handle (authority h) a) in
    let rising : T (is_sorted handle_cmp (where_key handle_cmp (λ h. same_handle (authority h) a) (map key (names es)))) =
    is_sorted-where_key handle_cmp (λ h. same_handle (authority h) a) (map key (names es)) (to_T _ (sorted-names es ∙ sorted)) in
    let same : map.from_entries {R = handle_cmp} (map key (set.items (set.retain (table_of es).handles (λ h. same_handle (authority h) a)))) ≡ map.from_sorted (where_key handle_cmp (λ h. same_handle (authority h) a) (map key (names es))) =
    map.same_map handle_total handle_antisymmetric _ _ (λ q.
    map.get-from_entries handle_total (map key (set.items kept)) q ∙ find-keys q (set.items kept)
    ∙ ap (λ b. cond b (Some nothing) None) (sym (set.contains-items kept q) ∙ set.contains-retain (table_of es).handles (λ h. same_handle (authority h) a) q (λ x e. ap (λ (h : List ℕ). same_handle (authority h) a) (sym (handle_antisymmetric q x e)))
    ∙ ap (λ b. b && same_handle (authority q) a) (set.contains-from_list handle_total (names es) q))
    ∙ turn (list_any (same_handle q) (names es)) (same_handle (authority q) a)
    ∙ sym (map.get-from_sorted handle_cmp (where_key handle_cmp (λ h. same_handle (authority h) a) (map key (names es))) q rising
    ∙ find-where_key handle_cmp (λ h. same_handle (authority h) a) q (λ x e. ap (λ (h : List ℕ). same_handle (authority h) a) (sym (handle_antisymmetric q x e))) (map key (names es))
    ∙ ap (λ x. cond (same_handle (authority q) a) x None) (find-keys q (names es)))) in
    ap map.keys same ∙ ap (map (λ e. e.0)) (map.entries-from_sorted handle_cmp (where_key handle_cmp (λ h. same_handle (authority h) a) (map key (names es))) rising) ∙ keys-kept (λ h. same_handle (authority h) a) (names es)
  where
    turn : (a b : Bool) → cond (a && b) (Some nothing) None ≡ cond b (cond a (Some nothing) None) None
    turn true true = refl
    turn true false = refl
    turn false true = refl
    turn false false = refl

-- a test that says whether two handles are one
pub same_test : (b : Bool) (g h : List ℕ) → (IsTrue b ↔ (g ≡ h)) → b ≡ same_handle g h
same_test true g h e = sym (ap (same_handle g) (sym (e.0 refl)) ∙ handle_itself g)
same_test false g h e = sym (apart g h (λ same. true≢false (sym (e.1 same))))

-- ---- values by their indexes

with_index : (vs : List Value) (i : ℕ) → value_with i vs ≡ find nat_cmp i (by_index vs)
with_index [] i = refl
with_index (v ∷ vs) i = (λ k. cond (sym (index_test i v.index) k) (Some v) (with_index vs i k))

pub indexes_kept : (es : Rows) (h : List ℕ) → AreInOrder es → HaveTheirIndexes (table_of es) h (values_there (find handle_cmp h es))
indexes_kept es h order = λ i. with_index (values_there (find handle_cmp h es)) i ∙ sym (within-is (find handle_cmp h es) i) ∙ sym (at-table es order.handles (place h i))
