-- What a call of a map makes of its entries: one is put, or taken away.
use Rattle.std.proofs.Common.{◌≡◌, ℕ, List, [], ◌∷◌, Vec, Bool, true, false, cond, not, T, Option, Some, None, option_map, unwrap_or, IsTrue, refl, sym, ap, ◌∙◌, Ordering, Less, Equal, Greater, is_eq}
use Rattle.std.specs.declared.alloc.Global.{Global}
use Rattle.std.specs.BTreeMap.{insert_entry}
use Rattle.std.specs.Map.{lookup, remove_entry, set_value}
use Rattle.std.specs.Ordering.{nat_cmp, match_ordering, ordering_reverse}
use Rattle.std.specs.List.{AllByRecursion}
use Rattle.std.specs.FinMap.{find, put, is_sorted}
use Rattle.std.specs.FinMap.Entries.{by_order, where_key, below_all, find-put, is_sorted-put, find-where_key, is_sorted-where_key}
use Rattle.hdl_value.specs.Place.{handle_cmp, same_handle}
use Rattle.hdl_value.specs.declared.value.Value.{Value}
use Rattle.hdl_value.proofs.Places.{handle_total, handle_antisymmetric, tied}
use Rattle.hdl_rows.specs.RowStore.{entry_of, entries_of, by_index, AreInOrder}
use Rattle.hdl_rows.proofs.Writes.{some_none}
use Rattle.hdl_rows.proofs.ShelfLemmas.{to_T, holds, first, second, less}

abbrev pub Entries : Type 0
Entries = List (Vec ℕ Global × Vec Value Global)

-- whether a key is this handle
abbrev pub is_key : List ℕ → Vec ℕ Global → Bool
is_key h k = same_handle h k.items

-- ---- what is found

pub find-entries : (h : List ℕ) (es : Entries) → find handle_cmp h (entries_of es) ≡ option_map (λ v. v.items) (lookup (is_key h) es)
find-entries h [] = refl
find-entries h (e ∷ es) = by_test (same_handle h e.0.items) (find-entries h es)
  where
    by_test : (b : Bool) → find handle_cmp h (entries_of es) ≡ option_map (λ v. v.items) (lookup (is_key h) es)
        → cond b (Some e.1.items) (find handle_cmp h (entries_of es)) ≡ option_map (λ v. v.items) (cond b (Some e.1) (lookup (is_key h) es))
    by_test true is = refl
    by_test false is = is

-- a handle below all isn't found
none_less : (h g : List ℕ) (es : List (List ℕ × List Value)) → handle_cmp h g ≡ Less → T (below_all handle_cmp g es) → find handle_cmp h es ≡ None
none_less h g [] under below = refl
none_less h g (f ∷ es) under below =
    ap (λ o. cond (is_eq o) (Some f.1) (find handle_cmp h es)) (handle_total.trans h g f.0 under (less _ (first _ _ below))) ∙ none_less h g es under (second _ _ below)

-- ---- each call puts an entry or takes one away

pub entries-inserted : (k : Vec ℕ Global) (v : Vec Value Global) (es : Entries) → entries_of (insert_entry (λ i j. handle_cmp i.items j.items) es k v) ≡ put handle_cmp k.items v.items (entries_of es)
entries-inserted k v [] = refl
entries-inserted k v (e ∷ es) = by_order_of (handle_cmp k.items e.0.items) (entries-inserted k v es)
  where
    by_order_of : (o : Ordering) → entries_of (insert_entry (λ i j. handle_cmp i.items j.items) es k v) ≡ put handle_cmp k.items v.items (entries_of es)
        → entries_of (match_ordering o ((k, v) ∷ e ∷ es) ((e.0, v) ∷ es) (e ∷ insert_entry (λ i j. handle_cmp i.items j.items) es k v))
        ≡ by_order o ((k.items, v.items) ∷ entry_of e ∷ entries_of es) ((e.0.items, v.items) ∷ entries_of es) (entry_of e ∷ put handle_cmp k.items v.items (entries_of es))
    by_order_of Less is = refl
    by_order_of Equal is = refl
    by_order_of Greater is = ap (λ (xs : List (List ℕ × List Value)). entry_of e ∷ xs) is

pub entries-set : (h : List ℕ) (v : List Value) (w : Vec Value Global) (es : Entries) → T (is_sorted handle_cmp (entries_of es)) → find handle_cmp h (entries_of es) ≡ Some v
    → entries_of (set_value (is_key h) es w) ≡ put handle_cmp h w.items (entries_of es)
entries-set h v w [] sorted found = absurd (some_none v (sym found))
entries-set h v w (e ∷ es) sorted found = by_order_of (handle_cmp h e.0.items) refl (λ later. entries-set h v w es (second _ _ sorted) later)
  where
    by_order_of : (o : Ordering) → handle_cmp h e.0.items ≡ o → (find handle_cmp h (entries_of es) ≡ Some v → entries_of (set_value (is_key h) es w) ≡ put handle_cmp h w.items (entries_of es))
        → entries_of (cond (is_eq o) ((e.0, w) ∷ es) (e ∷ set_value (is_key h) es w))
        ≡ by_order o ((h, w.items) ∷ entry_of e ∷ entries_of es) ((e.0.items, w.items) ∷ entries_of es) (entry_of e ∷ put handle_cmp h w.items (entries_of es))
    by_order_of Less is rest =
        absurd (some_none v (sym (sym (ap (λ o. cond (is_eq o) (Some e.1.items) (find handle_cmp h (entries_of es))) is ∙ none_less h e.0.items (entries_of es) is (first _ _ sorted)) ∙ found)))
    by_order_of Equal is rest = refl
    by_order_of Greater is rest = ap (λ (xs : List (List ℕ × List Value)). entry_of e ∷ xs) (rest (sym (ap (λ o. cond (is_eq o) (Some e.1.items) (find handle_cmp h (entries_of es))) is) ∙ found))

-- values put over themselves
pub entries-same : (h : List ℕ) (w : Vec Value Global) (es : Entries) → find handle_cmp h (entries_of es) ≡ Some w.items → entries_of (set_value (is_key h) es w) ≡ entries_of es
entries-same h w [] found = refl
entries-same h w (e ∷ es) found = by_test (same_handle h e.0.items) found (λ later. entries-same h w es later)
  where
    by_test : (b : Bool) → cond b (Some e.1.items) (find handle_cmp h (entries_of es)) ≡ Some w.items → (find handle_cmp h (entries_of es) ≡ Some w.items → entries_of (set_value (is_key h) es w) ≡ entries_of es)
        → entries_of (cond b ((e.0, w) ∷ es) (e ∷ set_value (is_key h) es w)) ≡ entry_of e ∷ entries_of es
    by_test true is rest = ap (λ o. (e.0.items, unwrap_or o w.items) ∷ entries_of es) (sym is)
    by_test false is rest = ap (λ (xs : List (List ℕ × List Value)). entry_of e ∷ xs) (rest is)

-- where no later handle ties, all stay
all_stay : (h g : List ℕ) (es : List (List ℕ × List Value)) → same_handle h g ≡ true → T (below_all handle_cmp g es) → where_key handle_cmp (λ q. not (same_handle h q)) es ≡ es
all_stay h g [] tie below = refl
all_stay h g (f ∷ es) tie below =
    ap (λ o. cond (not (is_eq o)) (f ∷ where_key handle_cmp (λ q. not (same_handle h q)) es) (where_key handle_cmp (λ q. not (same_handle h q)) es)) (handle_total.congr h g f.0 (tied _ tie) ∙ less _ (first _ _ below))
    ∙ ap (λ (xs : List (List ℕ × List Value)). f ∷ xs) (all_stay h g es tie (second _ _ below))

pub entries-removed : (h : List ℕ) (es : Entries) → T (is_sorted handle_cmp (entries_of es)) → entries_of (remove_entry (is_key h) es) ≡ where_key handle_cmp (λ q. not (same_handle h q)) (entries_of es)
entries-removed h [] sorted = refl
entries-removed h (e ∷ es) sorted = by_test (same_handle h e.0.items) refl (entries-removed h es (second _ _ sorted))
  where
    by_test : (b : Bool) → same_handle h e.0.items ≡ b → entries_of (remove_entry (is_key h) es) ≡ where_key handle_cmp (λ q. not (same_handle h q)) (entries_of es)
        → entries_of (cond b es (e ∷ remove_entry (is_key h) es))
        ≡ cond (not b) (entry_of e ∷ where_key handle_cmp (λ q. not (same_handle h q)) (entries_of es)) (where_key handle_cmp (λ q. not (same_handle h q)) (entries_of es))
    by_test true is rest = sym (all_stay h e.0.items (entries_of es) is (first _ _ sorted))
    by_test false is rest = ap (λ (xs : List (List ℕ × List Value)). entry_of e ∷ xs) rest

-- ---- what is found then

-- the values of each entry rise
abbrev EachRises : List (List ℕ × List Value) → Type 0
EachRises es = AllByRecursion (λ e. IsTrue (is_sorted nat_cmp (by_index e.1))) es

put_rises : (h : List ℕ) (ws : List Value) (es : List (List ℕ × List Value)) → IsTrue (is_sorted nat_cmp (by_index ws)) → EachRises es → EachRises (put handle_cmp h ws es)
put_rises h ws [] new all = (new, tt)
put_rises h ws (e ∷ es) new all = by_order_of (handle_cmp h e.0) (put_rises h ws es new all.1)
  where
    by_order_of : (o : Ordering) → EachRises (put handle_cmp h ws es) → EachRises (by_order o ((h, ws) ∷ e ∷ es) ((e.0, ws) ∷ es) (e ∷ put handle_cmp h ws es))
    by_order_of Less after = (new, all)
    by_order_of Equal after = (new, all.1)
    by_order_of Greater after = (all.0, after)

-- an entry put in its place
pub put_in : (es : List (List ℕ × List Value)) (h : List ℕ) (vs : List Value) → AreInOrder es → IsTrue (is_sorted nat_cmp (by_index vs))
    → AreInOrder (put handle_cmp h vs es) × ((q : List ℕ) → find handle_cmp q (put handle_cmp h vs es) ≡ cond (same_handle q h) (Some vs) (find handle_cmp q es))
put_in es h vs order new = (
  record { handles = holds _ (is_sorted-put handle_cmp handle_total h vs es (to_T _ order.handles)); values = put_rises h vs es new order.values },
  λ q. find-put handle_cmp handle_total q h vs es,
)

rises-kept : (p : List ℕ → Bool) (es : List (List ℕ × List Value)) → EachRises es → EachRises (where_key handle_cmp p es)
rises-kept p [] all = tt
rises-kept p (e ∷ es) all = pick (p e.0) (rises-kept p es all.1)
  where
    pick : (b : Bool) → EachRises (where_key handle_cmp p es) → EachRises (cond b (e ∷ where_key handle_cmp p es) (where_key handle_cmp p es))
    pick true rest = (all.0, rest)
    pick false rest = rest

symmetric : (q h : List ℕ) → same_handle h q ≡ same_handle q h
symmetric q h = ap is_eq (handle_total.antisymm h q) ∙ unturned (handle_cmp q h)
  where
    unturned : (o : Ordering) → is_eq (ordering_reverse o) ≡ is_eq o
    unturned Less = refl
    unturned Equal = refl
    unturned Greater = refl

-- an entry taken away
pub taken_away : (es : List (List ℕ × List Value)) (h : List ℕ) → AreInOrder es
    → AreInOrder (where_key handle_cmp (λ g. not (same_handle h g)) es) × ((q : List ℕ) → find handle_cmp q (where_key handle_cmp (λ g. not (same_handle h g)) es) ≡ cond (same_handle q h) None (find handle_cmp q es))
taken_away es h order = (
  record { handles = holds _ (is_sorted-where_key handle_cmp (λ g. not (same_handle h g)) es (to_T _ order.handles)); values = rises-kept (λ g. not (same_handle h g)) es order.values },
  λ q. find-where_key handle_cmp (λ g. not (same_handle h g)) q (λ g e. ap (λ (f : List ℕ). not (same_handle h f)) (sym (handle_antisymmetric q g e))) es
      ∙ turn (same_handle h q) (same_handle q h) (find handle_cmp q es) (symmetric q h),
)
  where
    turn : (a b : Bool) (x : Option (List Value)) → a ≡ b → cond (not a) x None ≡ cond b None x
    turn true b x e = ap (λ c. cond c None x) e
    turn false b x e = ap (λ c. cond c None x) e
