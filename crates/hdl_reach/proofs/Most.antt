-- Bounds of what a table's values, handles and lists count.
use Rattle.std.proofs.Common.{◌≡◌, ◌≤◌, ◌+◌, ◌*◌, ℕ, List, [], ◌∷◌, Bool, true, false, cond, ◌&&◌, map, filter, Option, Some, None, sum_by, refl, sym, ap, ◌∙◌, subst, arith, Ordering, Equal}
use Rattle.std.specs.List.{list_any}
use Rattle.std.specs.Cmp.{IsTotalOrder}
use Rattle.std.proofs.lemmas.List.Sums.{sum_by-cons}
use Rattle.std.specs.Ordering.{eq_by_cmp}
use Rattle.std.specs.FinMap as finite
use Rattle.std.specs.FinMap.{FinMap, IsAntisymmetric, entries, entries_sorted, entries-from_sorted, find, retain_keys, from_entries, from_sorted, get-entries, get-from_entries, get-from_sorted, get-retain_keys, same_map}
use Rattle.std.specs.FinMap.Entries.{where_key, is_sorted-where_key, find-where_key}
use Rattle.std.specs.FinSet as set
use Rattle.hdl_name.specs.Name.{authority}
use Rattle.hdl_value.specs.Place.{Place, handle_cmp, place_cmp, same_handle}
use Rattle.hdl_value.specs.declared.value.Value.{Value}
use Rattle.hdl_value.proofs.Places.{handle_total, handle_antisymmetric, place_total, place_antisymmetric}
use Rattle.hdl_rows.specs.Table.{Table, at, values_of, names_of, in_order, key}
use Rattle.hdl_rows.specs.Heads.{head, heads_of}
use Rattle.hdl_rows.specs.Reads.{of_value, value_octets, values_octets, name_octets, names_octets}
use Rattle.hdl_rows.proofs.ShelfLemmas.{nothing, find-keys}
use Rattle.hdl_rows.specs.declared.reads.TheConstants.{CALL_OCTETS}
use Rattle.hdl_value.specs.Refs.{is_admin}
use Rattle.hdl_reach.specs.Cost.{HaveMost, admin_reads, admins_reads}

-- ---- the entries whose keys pass a test

module _ {K X : Type 0} {R : K → K → Ordering} (o : IsTotalOrder R) (same : IsAntisymmetric R) where
  entries_kept : (m : FinMap R X) (p : K → Bool) → ((q x : K) → R q x ≡ Equal → p x ≡ p q) → entries (retain_keys m p) ≡ where_key R p (entries m)
  entries_kept m p alike =
      let rising = is_sorted-where_key R p (entries m) (entries_sorted m) in
      let one : retain_keys m p ≡ from_sorted (where_key R p (entries m)) = same_map o same _ _ (λ q.
      get-retain_keys m p q (alike q) ∙ ap (λ x. cond (p q) x None) (get-entries m q)
      ∙ sym (get-from_sorted R (where_key R p (entries m)) q rising ∙ find-where_key R p q (alike q) (entries m))) in
      ap entries one ∙ entries-from_sorted R (where_key R p (entries m)) rising

kept_less : {X Y : Type 0} (f : Y → ℕ) (g : X → Y) (p : X → Bool) (xs : List X) → sum_by f (map g (filter p xs)) ≤ sum_by f (map g xs)
kept_less f g p [] = omega arith
kept_less f g p (x ∷ xs) =
    elim (p x) as (λ b. sum_by f (map g (cond b (x ∷ filter p xs) (filter p xs))) ≤ sum_by f (g x ∷ map g xs)) [
      | true ↦ omega (arith, sum_by-cons f (g x) (map g (filter p xs)), sum_by-cons f (g x) (map g xs), kept_less f g p xs)
      | false ↦ omega (arith, sum_by-cons f (g x) (map g xs), kept_less f g p xs)
    ]

-- ---- values

found_less : (es : List (Place × Value)) (q : Place) → of_value (find place_cmp q es) ≤ values_octets (map (λ (e : Place × Value). e.1) es)
found_less [] q = omega arith
found_less (e ∷ es) q =
    elim (eq_by_cmp place_cmp q e.0) as (λ b. of_value (cond b (Some e.1) (find place_cmp q es)) ≤ sum_by value_octets (e.1 ∷ map (λ (e : Place × Value). e.1) es)) [
      | true ↦ omega (arith, sum_by-cons value_octets e.1 (map (λ (e : Place × Value). e.1) es))
      | false ↦ omega (arith, sum_by-cons value_octets e.1 (map (λ (e : Place × Value). e.1) es), found_less es q)
    ]

value_less : (t : Table) (p : Place) → of_value (at t p) ≤ values_octets (finite.values t.values)
value_less t p = subst (λ (o : Option Value). of_value o ≤ values_octets (finite.values t.values)) (sym (get-entries t.values p)) (found_less (entries t.values) p)

values_less : (t : Table) (h : List ℕ) → values_octets (values_of t h) ≤ values_octets (finite.values t.values)
values_less t h =
    let of : Place → Bool = λ p. same_handle p.handle h in
    let kept = entries_kept place_total place_antisymmetric t.values of (λ q x e. ap (λ (r : Place). same_handle r.handle h) (sym (place_antisymmetric q x e))) in
    subst (λ es. values_octets (map (λ (e : Place × Value). e.1) es) ≤ values_octets (finite.values t.values)) (sym kept)
    (kept_less value_octets (λ (e : Place × Value). e.1) (λ (e : Place × Value). same_handle e.0.handle h) (entries t.values))

heads_of_less : (vs : List Value) → values_octets (map head vs) ≤ values_octets vs
heads_of_less [] = omega arith
heads_of_less (v ∷ vs) = omega (arith, sum_by-cons value_octets (head v) (map head vs), sum_by-cons value_octets v vs, heads_of_less vs)

heads_less : (t : Table) (h : List ℕ) → values_octets (heads_of t h) ≤ values_octets (finite.values t.values)
heads_less t h = omega (arith, heads_of_less (values_of t h), values_less t h)

admin_less : (v : Value) → admin_reads v ≤ 2 * value_octets v
admin_less v = elim (is_admin v) as (λ b. cond b (CALL_OCTETS + value_octets v) 0 ≤ 2 * value_octets v) [ true ↦ omega arith | false ↦ omega arith ]

admins_of_less : (vs : List Value) → admins_reads vs ≤ 2 * values_octets vs
admins_of_less [] = omega arith
admins_of_less (v ∷ vs) = omega (arith, admin_less v, sum_by-cons admin_reads v vs, sum_by-cons value_octets v vs, admins_of_less vs)

admins_less : (t : Table) (h : List ℕ) → admins_reads (values_of t h) ≤ 2 * values_octets (finite.values t.values)
admins_less t h = omega (arith, admins_of_less (values_of t h), values_less t h)

-- ---- handles

abbrev keys : set.FinSet handle_cmp → FinMap handle_cmp (Unit {0})
keys s = from_entries {R = handle_cmp} (map key (set.items s))

turn : (a b : Bool) → cond (a && b) (Some nothing) None ≡ cond b (cond a (Some nothing) None) None
turn true true = refl
turn true false = refl
turn false true = refl
turn false false = refl

keys_kept : (s : set.FinSet handle_cmp) (p : List ℕ → Bool) → ((q x : List ℕ) → handle_cmp q x ≡ Equal → p x ≡ p q) → keys (set.retain s p) ≡ retain_keys (keys s) p
keys_kept s p alike = same_map handle_total handle_antisymmetric _ _ (λ q.
    get-from_entries handle_total (map key (set.items (set.retain s p))) q ∙ find-keys q (set.items (set.retain s p))
    ∙ ap (λ b. cond b (Some nothing) None) (sym (set.contains-items (set.retain s p) q) ∙ set.contains-retain s p q (alike q) ∙ ap (λ b. b && p q) (set.contains-items s q))
    ∙ turn (list_any (same_handle q) (set.items s)) (p q)
    ∙ sym (get-retain_keys (keys s) p q (alike q) ∙ ap (λ x. cond (p q) x None) (get-from_entries handle_total (map key (set.items s)) q ∙ find-keys q (set.items s))))

names_less : (t : Table) (a : List ℕ) → names_octets (names_of t a) ≤ names_octets (in_order t.handles)
names_less t a =
    let of : List ℕ → Bool = λ h. same_handle (authority h) a in
    let alike : (q x : List ℕ) → handle_cmp q x ≡ Equal → same_handle (authority x) a ≡ same_handle (authority q) a = λ q x e. ap (λ (h : List ℕ). same_handle (authority h) a) (sym (handle_antisymmetric q x e)) in
    let kept = ap entries (keys_kept t.handles of alike) ∙ entries_kept handle_total handle_antisymmetric (keys t.handles) of alike in
    subst (λ es. names_octets (map (λ (e : List ℕ × Unit {0}). e.0) es) ≤ names_octets (in_order t.handles)) (sym kept)
    (kept_less name_octets (λ (e : List ℕ × Unit {0}). e.0) (λ (e : List ℕ × Unit {0}). same_handle (authority e.0) a) (entries (keys t.handles)))

pub all_have_most : HaveMost
all_have_most t = (
  record { value = values_octets (finite.values t.values); heads = values_octets (finite.values t.values); admins = 2 * values_octets (finite.values t.values); names = names_octets (in_order t.handles) },
  record { value = value_less t; heads = heads_less t; admins = admins_less t; names = names_less t },
)
