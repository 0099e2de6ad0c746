-- What a write leaves at each place and of each handle.
use Rattle.std.proofs.Common.{◌≡◌, ◌≢◌, ℕ, List, [], ◌∷◌, Bool, true, false, cond, not, ◌&&◌, ◌||◌, T, Option, Some, None, refl, sym, ap, ◌∙◌, subst, Ordering, Less, Equal, Greater, is_eq, is_some}
use Rattle.std.specs.Ordering.{nat_cmp, ordering_then, eq_by_cmp}
use Rattle.std.specs.Cmp.{nat_cmp_total, tied_itself}
use Rattle.std.specs.List.{AllByRecursion}
use Rattle.std.specs.FinMap as map
use Rattle.std.specs.FinMap.{nat_cmp-IsAntisymmetric}
use Rattle.std.specs.FinSet as set
use Rattle.hdl_value.specs.Place.{Place, handle_cmp, place_cmp, same_handle}
use Rattle.hdl_value.specs.declared.value.Value.{Value}
use Rattle.hdl_value.proofs.Places.{handle_total, handle_antisymmetric, place_total, place_antisymmetric, handles_equal, handle_itself}
use Rattle.hdl_rows.specs.Table.{Table, place, has, at, values_of, put_values, remove_values, with_new_handle, with_values, without_values, without_handle, AreDistinct, indexes, IsPlaced}
use Rattle.hdl_rows.specs.Write.{Write, Create, Add, Modify, Remove, Delete, handle_of, after_write, CanWrite}

pub same_look_ups_lem : (t u : Table) → ((h : List ℕ) → has t h ≡ has u h) → ((p : Place) → at t p ≡ at u p) → t ≡ u
same_look_ups_lem t u alike_handles alike_values =
    let handles = set.same_set handle_total handle_antisymmetric t.handles u.handles alike_handles in
    let values = map.same_map place_total place_antisymmetric t.values u.values alike_values in
    λ i. record { handles = handles i; values = values i }

-- ---- tests

pub apart : (g h : List ℕ) → g ≢ h → same_handle g h ≡ false
apart g h other = none_tied (same_handle g h) (λ e. other (handles_equal g h e))
  where
    none_tied : (b : Bool) → (b ≡ true → ⊥) → b ≡ false
    none_tied true f = absurd (f refl)
    none_tied false f = refl

pub index_itself : (i : ℕ) → is_eq (nat_cmp i i) ≡ true
index_itself i = ap is_eq (tied_itself nat_cmp_total i)

pub indexes_apart : (i j : ℕ) → i ≢ j → is_eq (nat_cmp i j) ≡ false
indexes_apart i j other = none_tied (nat_cmp i j) (λ e. other (nat_cmp-IsAntisymmetric i j e))
  where
    none_tied : (o : Ordering) → (o ≡ Equal → ⊥) → is_eq o ≡ false
    none_tied Less f = refl
    none_tied Equal f = absurd (f refl)
    none_tied Greater f = refl

-- at the places of a handle the indexes decide
pub at_place : (p : Place) (h : List ℕ) (i : ℕ) → eq_by_cmp place_cmp p (place h i) ≡ cond (same_handle p.handle h) (is_eq (nat_cmp p.index i)) false
at_place p h i = split (handle_cmp p.handle h) (nat_cmp p.index i)
  where
    split : (o q : Ordering) → is_eq (ordering_then o q) ≡ cond (is_eq o) (is_eq q) false
    split Less q = refl
    split Equal q = refl
    split Greater q = refl

pub some_none : {X : Type 0} (x : X) → Some x ≡ None → ⊥
some_none x e = subst T (ap is_some e) tt

-- ---- values put one by one

-- what stands at an index once values were put
abbrev pub put_at : List Value → ℕ → Option Value → Option Value
put_at [] i x = x
put_at (v ∷ vs) i x = put_at vs i (cond (is_eq (nat_cmp i v.index)) (Some v) x)

either : (b : Bool) (x : Option Value) → x ≡ cond b x x
either true x = refl
either false x = refl

pub get-put_values : (m : map.FinMap place_cmp Value) (h : List ℕ) (vs : List Value) (p : Place) → map.get (put_values m h vs) p ≡ cond (same_handle p.handle h) (put_at vs p.index (map.get m p)) (map.get m p)
get-put_values m h [] p = either (same_handle p.handle h) (map.get m p)
get-put_values m h (v ∷ vs) p =
    get-put_values (map.insert m (place h v.index) v) h vs p
    ∙ ap (λ (x : Option Value). cond (same_handle p.handle h) (put_at vs p.index x) x) (map.get-insert place_total m (place h v.index) v p ∙ ap (λ b. cond b (Some v) (map.get m p)) (at_place p h v.index))
    ∙ step (same_handle p.handle h) (is_eq (nat_cmp p.index v.index)) (map.get m p)
  where
    step : (a b : Bool) (x : Option Value) → cond a (put_at vs p.index (cond (cond a b false) (Some v) x)) (cond (cond a b false) (Some v) x) ≡ cond a (put_at vs p.index (cond b (Some v) x)) x
    step true b x = refl
    step false b x = refl

-- what stands at an index once others were removed
abbrev pub removed_at : List ℕ → ℕ → Option Value → Option Value
removed_at [] i x = x
removed_at (j ∷ js) i x = removed_at js i (cond (is_eq (nat_cmp i j)) None x)

pub get-remove_values : (m : map.FinMap place_cmp Value) (h : List ℕ) (is : List ℕ) (p : Place) → map.get (remove_values m h is) p ≡ cond (same_handle p.handle h) (removed_at is p.index (map.get m p)) (map.get m p)
get-remove_values m h [] p = either (same_handle p.handle h) (map.get m p)
get-remove_values m h (i ∷ is) p =
    get-remove_values (map.remove m (place h i)) h is p
    ∙ ap (λ (x : Option Value). cond (same_handle p.handle h) (removed_at is p.index x) x) (map.get-remove place_total m (place h i) p ∙ ap (λ b. cond b None (map.get m p)) (at_place p h i))
    ∙ step (same_handle p.handle h) (is_eq (nat_cmp p.index i)) (map.get m p)
  where
    step : (a b : Bool) (x : Option Value) → cond a (removed_at is p.index (cond (cond a b false) None x)) (cond (cond a b false) None x) ≡ cond a (removed_at is p.index (cond b None x)) x
    step true b x = refl
    step false b x = refl

-- ---- by writes

-- what stands at a place of the written handle
abbrev pub at_after : Write → ℕ → Option Value → Option Value
at_after (Create h vs) i x = put_at vs i x
at_after (Add h vs) i x = put_at vs i x
at_after (Modify h vs) i x = put_at vs i x
at_after (Remove h is) i x = removed_at is i x
at_after (Delete h) i x = None

abbrev pub has_after : Write → Bool → Bool
has_after (Create h vs) b = true
has_after (Add h vs) b = b
has_after (Modify h vs) b = b
has_after (Remove h is) b = b
has_after (Delete h) b = false

pub at-after_write : (t : Table) (w : Write) (p : Place) → at (after_write t w) p ≡ cond (same_handle p.handle (handle_of w)) (at_after w p.index (at t p)) (at t p)
at-after_write t (Create h vs) p = get-put_values t.values h vs p
at-after_write t (Add h vs) p = get-put_values t.values h vs p
at-after_write t (Modify h vs) p = get-put_values t.values h vs p
at-after_write t (Remove h is) p = get-remove_values t.values h is p
at-after_write t (Delete h) p =
    map.get-retain_keys t.values (λ q. not (same_handle q.handle h)) p (λ q e. ap (λ (r : Place). not (same_handle r.handle h)) (sym (place_antisymmetric p q e)))
    ∙ turned (same_handle p.handle h) (at t p)
  where
    turned : (b : Bool) (x : Option Value) → cond (not b) x None ≡ cond b None x
    turned true x = refl
    turned false x = refl

same_either : (a b : Bool) → b ≡ cond a b b
same_either true b = refl
same_either false b = refl

pub has-after_write : (t : Table) (w : Write) (g : List ℕ) → has (after_write t w) g ≡ cond (same_handle g (handle_of w)) (has_after w (has t g)) (has t g)
has-after_write t (Create h vs) g = set.contains-insert handle_total t.handles h g ∙ or_is (same_handle g h) (has t g)
  where
    or_is : (a b : Bool) → (a || b) ≡ cond a true b
    or_is true b = refl
    or_is false b = refl
has-after_write t (Add h vs) g = same_either (same_handle g h) (has t g)
has-after_write t (Modify h vs) g = same_either (same_handle g h) (has t g)
has-after_write t (Remove h is) g = same_either (same_handle g h) (has t g)
has-after_write t (Delete h) g = set.contains-remove handle_total t.handles h g ∙ and_is (same_handle g h) (has t g)
  where
    and_is : (a b : Bool) → (not a && b) ≡ cond a false b
    and_is true b = refl
    and_is false b = refl

-- the values of a handle are those that its places hold
pub same_values : (t u : Table) (h : List ℕ) → ((i : ℕ) → at t (place h i) ≡ at u (place h i)) → values_of t h ≡ values_of u h
same_values t u h alike =
    ap map.values (map.same_map place_total place_antisymmetric _ _ (λ p.
    retained t p ∙ gate (same_handle p.handle h) (at t p) (at u p) (λ e. by_parts p e ∙ sym (by_parts_of u p e)) ∙ sym (retained u p)))
  where
    retained : (s : Table) (p : Place) → map.get (map.retain_keys s.values (λ q. same_handle q.handle h)) p ≡ cond (same_handle p.handle h) (at s p) None
    retained s p = map.get-retain_keys s.values (λ q. same_handle q.handle h) p (λ q e. ap (λ (r : Place). same_handle r.handle h) (sym (place_antisymmetric p q e)))

    gate : (b : Bool) (x y : Option Value) → (b ≡ true → x ≡ y) → cond b x None ≡ cond b y None
    gate true x y f = f refl
    gate false x y f = refl

    by_parts_of : (s : Table) (p : Place) → same_handle p.handle h ≡ true → at s p ≡ at s (place h p.index)
    by_parts_of s p e = ap (λ (g : List ℕ). at s (place g p.index)) (handles_equal p.handle h e)

    by_parts : (p : Place) → same_handle p.handle h ≡ true → at t p ≡ at u (place h p.index)
    by_parts p e = by_parts_of t p e ∙ alike p.index

pub other_handles_stay_lem : (t : Table) (w : Write) (g : List ℕ) → g ≢ handle_of w
    → (has (after_write t w) g ≡ has t g) × ((i : ℕ) → at (after_write t w) (place g i) ≡ at t (place g i)) × (values_of (after_write t w) g ≡ values_of t g)
other_handles_stay_lem t w g other =
    let test : same_handle g (handle_of w) ≡ false = apart g (handle_of w) other in
    let there : (i : ℕ) → at (after_write t w) (place g i) ≡ at t (place g i) = λ i. at-after_write t w (place g i) ∙ ap (λ b. cond b (at_after w i (at t (place g i))) (at t (place g i))) test in
    (has-after_write t w g ∙ ap (λ b. cond b (has_after w (has t g)) (has t g)) test, there, same_values (after_write t w) t g there)

-- ---- at the written handle

here : (t : Table) (w : Write) (i : ℕ) → at (after_write t w) (place (handle_of w) i) ≡ at_after w i (at t (place (handle_of w) i))
here t w i = at-after_write t w (place (handle_of w) i) ∙ ap (λ b. cond b (at_after w i (at t (place (handle_of w) i))) (at t (place (handle_of w) i))) (handle_itself (handle_of w))

put_at-others : (vs : List Value) (i : ℕ) (x : Option Value) → AllByRecursion (λ j. i ≢ j) (indexes vs) → put_at vs i x ≡ x
put_at-others [] i x others = refl
put_at-others (v ∷ vs) i x others = put_at-others vs i _ others.1 ∙ ap (λ b. cond b (Some v) x) (indexes_apart i v.index others.0)

put_at-each : (vs : List Value) (old : ℕ → Option Value) → AreDistinct (indexes vs) → AllByRecursion (λ v. put_at vs v.index (old v.index) ≡ Some v) vs
put_at-each [] old distinct = tt
put_at-each (v ∷ vs) old distinct =
    (put_at-others vs v.index _ distinct.0 ∙ ap (λ b. cond b (Some v) (old v.index)) (index_itself v.index), put_at-each vs (λ i. cond (is_eq (nat_cmp i v.index)) (Some v) (old i)) distinct.1)

removed_at-others : (is : List ℕ) (i : ℕ) (x : Option Value) → AllByRecursion (λ j. i ≢ j) is → removed_at is i x ≡ x
removed_at-others [] i x others = refl
removed_at-others (j ∷ js) i x others = removed_at-others js i _ others.1 ∙ ap (λ b. cond b None x) (indexes_apart i j others.0)

removed_at-none : (is : List ℕ) (i : ℕ) → removed_at is i None ≡ None
removed_at-none [] i = refl
removed_at-none (j ∷ js) i = ap (removed_at js i) (sym (either (is_eq (nat_cmp i j)) None)) ∙ removed_at-none js i

removed_at-each : (is : List ℕ) (old : ℕ → Option Value) → AllByRecursion (λ i. removed_at is i (old i) ≡ None) is
removed_at-each [] old = tt
removed_at-each (i ∷ is) old =
    (ap (λ b. removed_at is i (cond b None (old i))) (index_itself i) ∙ removed_at-none is i, removed_at-each is (λ j. cond (is_eq (nat_cmp j i)) None (old j)))

-- a fact for each element, by another
each : {X : Type 0} (P Q : X → Type 0) (xs : List X) → ((x : X) → P x → Q x) → AllByRecursion P xs → AllByRecursion Q xs
each P Q [] f all = tt
each P Q (x ∷ xs) f all = (f x all.0, each P Q xs f all.1)

pub put_stands_lem : (t : Table) (h : List ℕ) (vs : List Value) → AreDistinct (indexes vs) → AllByRecursion (λ v. at (with_values t h vs) (place h v.index) ≡ Some v) vs
put_stands_lem t h vs distinct = each _ _ vs (λ v e. here t (Add h vs) v.index ∙ e) (put_at-each vs (λ i. at t (place h i)) distinct)

pub others_stay_lem : (t : Table) (h : List ℕ) (vs : List Value) (i : ℕ) → AllByRecursion (λ j. i ≢ j) (indexes vs) → at (with_values t h vs) (place h i) ≡ at t (place h i)
others_stay_lem t h vs i others = here t (Add h vs) i ∙ put_at-others vs i _ others

pub removed_are_gone_lem : (t : Table) (h : List ℕ) (is : List ℕ) → AllByRecursion (λ i. at (without_values t h is) (place h i) ≡ None) is
removed_are_gone_lem t h is = each _ _ is (λ i e. here t (Remove h is) i ∙ e) (removed_at-each is (λ i. at t (place h i)))

pub unremoved_stay_lem : (t : Table) (h : List ℕ) (is : List ℕ) (i : ℕ) → AllByRecursion (λ j. i ≢ j) is → at (without_values t h is) (place h i) ≡ at t (place h i)
unremoved_stay_lem t h is i others = here t (Remove h is) i ∙ removed_at-others is i _ others

has_here : (t : Table) (w : Write) → has (after_write t w) (handle_of w) ≡ has_after w (has t (handle_of w))
has_here t w = has-after_write t w (handle_of w) ∙ ap (λ b. cond b (has_after w (has t (handle_of w))) (has t (handle_of w))) (handle_itself (handle_of w))

pub created_is_there_lem : (t : Table) (h : List ℕ) (vs : List Value) → AreDistinct (indexes vs) → (has (with_new_handle t h vs) h ≡ true) × AllByRecursion (λ v. at (with_new_handle t h vs) (place h v.index) ≡ Some v) vs
created_is_there_lem t h vs distinct = (has_here t (Create h vs), each _ _ vs (λ v e. here t (Create h vs) v.index ∙ e) (put_at-each vs (λ i. at t (place h i)) distinct))

pub deleted_is_gone_lem : (t : Table) (h : List ℕ) → (has (without_handle t h) h ≡ false) × ((i : ℕ) → at (without_handle t h) (place h i) ≡ None)
deleted_is_gone_lem t h = (has_here t (Delete h), λ i. here t (Delete h) i)

pub handles_stay_lem : (t : Table) (h g : List ℕ) (vs : List Value) (is : List ℕ) → (has (with_values t h vs) g ≡ has t g) × (has (without_values t h is) g ≡ has t g)
handles_stay_lem t h g vs is = (refl, refl)

-- ---- placed tables

removed_at-some : (is : List ℕ) (i : ℕ) (x : Option Value) (v : Value) → removed_at is i x ≡ Some v → x ≡ Some v
removed_at-some [] i x v e = e
removed_at-some (j ∷ js) i x v e = kept (is_eq (nat_cmp i j)) (removed_at-some js i _ v e)
  where
    kept : (b : Bool) → cond b None x ≡ Some v → x ≡ Some v
    kept true k = absurd (some_none v (sym k))
    kept false k = k

-- the written handle is there where a value of it is
has_where_some : (t : Table) (w : Write) (i : ℕ) (v : Value) → IsPlaced t → CanWrite t w → at_after w i (at t (place (handle_of w) i)) ≡ Some v → has_after w (has t (handle_of w)) ≡ true
has_where_some t (Create h vs) i v placed can e = refl
has_where_some t (Add h vs) i v placed can e = can.0
has_where_some t (Modify h vs) i v placed can e = can.0
has_where_some t (Remove h is) i v placed can e = can.0
has_where_some t (Delete h) i v placed can e = absurd (some_none v (sym e))

pub stay_placed_lem : (t : Table) (w : Write) → IsPlaced t → CanWrite t w → IsPlaced (after_write t w)
stay_placed_lem t w placed can p v e = by_test (same_handle p.handle (handle_of w)) refl
  where
    by_test : (b : Bool) → same_handle p.handle (handle_of w) ≡ b → has (after_write t w) p.handle ≡ true
    by_test true is =
        let same : p.handle ≡ handle_of w = handles_equal p.handle (handle_of w) is in
        let there : at (after_write t w) (place (handle_of w) p.index) ≡ Some v = ap (λ (g : List ℕ). at (after_write t w) (place g p.index)) (sym same) ∙ e in
        ap (has (after_write t w)) same ∙ has_here t w ∙ has_where_some t w p.index v placed can (sym (here t w p.index) ∙ there)
    by_test false is =
        let was : at t p ≡ Some v = sym (at-after_write t w p ∙ ap (λ b. cond b (at_after w p.index (at t p)) (at t p)) is) ∙ e in
        has-after_write t w p.handle ∙ ap (λ b. cond b (has_after w (has t p.handle)) (has t p.handle)) is ∙ placed p v was
