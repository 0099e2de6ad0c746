-- A table within limits.
use Rattle.std.proofs.Common.{◌≡◌, ◌≤◌, ◌+◌, ◌*◌, ℕ, List, [], ◌∷◌, Bool, true, false, cond, map, filter, length, sum_by, Option, Some, None, sym, ap, ◌∙◌, subst, arith, Ordering, Equal}
use Rattle.std.specs.List.{AllByRecursion}
use Rattle.std.specs.Ordering.{eq_by_cmp}
use Rattle.std.specs.FinMap as finite
use Rattle.std.specs.FinMap.{entries, entries_sorted, entries-from_sorted, find, retain_keys, from_sorted, get-entries, get-from_sorted, get-retain_keys, same_map}
use Rattle.std.specs.FinMap.Entries.{where_key, is_sorted-where_key, find-where_key}
use Rattle.std.proofs.lemmas.List.Sums.{sum_by-cons}
use Rattle.hdl_limits.specs.declared.TheConstants.{NAME_MAX}
use Rattle.hdl_value.specs.Place.{Place, place_cmp, same_handle}
use Rattle.hdl_value.specs.declared.references.RawRef.{RawRef}
use Rattle.hdl_value.specs.declared.value.Value.{Value}
use Rattle.hdl_value.specs.Refs.{is_admin}
use Rattle.hdl_value.proofs.Places.{place_total, place_antisymmetric}
use Rattle.hdl_rows.specs.Table.{Table, at, values_of}
use Rattle.hdl_rows.specs.Heads.{head, heads_of}
use Rattle.hdl_rows.specs.Reads.{of_value, value_octets, values_octets, reference_octets}
use Rattle.hdl_rows.specs.declared.reads.TheConstants.{CALL_OCTETS}
use Rattle.hdl_reach.specs.Cost.{admin_reads, admins_reads}
use Rattle.hdl_laws.specs.Limits.{IsShort, IsWithinLimits, LimitsBound, head_most, value_most}

-- ---- values that are short

few_references : (rs : List RawRef) → AllByRecursion (λ (r : RawRef). length r.handle ≤ NAME_MAX) rs → sum_by reference_octets rs ≤ 2056 * length rs
few_references [] all = omega arith
few_references (r ∷ rs) all = omega (arith, all.0, few_references rs all.1, sum_by-cons reference_octets r rs)

value_short : (v : Value) → IsShort v → value_octets v ≤ value_most
value_short v short = omega (arith, short.kind, short.bytes, short.count, few_references v.references short.handles)

admin_short : (v : Value) → IsShort v → admin_reads v ≤ 164653
admin_short v short =
    let most = value_short v short in
    elim (is_admin v) as (λ b. cond b (CALL_OCTETS + value_octets v) 0 ≤ 164653) [ true ↦ omega arith | false ↦ omega arith ]

admins_short : (vs : List Value) → AllByRecursion IsShort vs → admins_reads vs ≤ 164653 * length vs
admins_short [] all = omega arith
admins_short (v ∷ vs) all = omega (arith, admin_short v all.0, admins_short vs all.1, sum_by-cons admin_reads v vs)

heads_short : (vs : List Value) → AllByRecursion IsShort vs → values_octets (map head vs) ≤ 285 * length vs
heads_short [] all = omega arith
heads_short (v ∷ vs) all = let kind = all.0.kind in omega (arith, kind, heads_short vs all.1, sum_by-cons value_octets (head v) (map head vs))

-- ---- entries

abbrev Placed : Type 0
Placed = List (Place × Value)

abbrev value_in : Place × Value → Value
value_in e = e.1

found_short : (es : Placed) (q : Place) → AllByRecursion IsShort (map value_in es) → of_value (find place_cmp q es) ≤ value_most
found_short [] q all = omega arith
found_short (e ∷ es) q all =
    elim (eq_by_cmp place_cmp q e.0) as (λ b. of_value (cond b (Some e.1) (find place_cmp q es)) ≤ value_most) [
      | true ↦ value_short e.1 all.0
      | false ↦ found_short es q all.1
    ]

kept_short : (p : Place × Value → Bool) (es : Placed) → AllByRecursion IsShort (map value_in es) → AllByRecursion IsShort (map value_in (filter p es))
kept_short p [] all = tt
kept_short p (e ∷ es) all =
    let rest = kept_short p es all.1 in
    elim (p e) as (λ b. AllByRecursion IsShort (map value_in (cond b (e ∷ filter p es) (filter p es)))) [ true ↦ (all.0, rest) | false ↦ rest ]

of_handle : (t : Table) (h : List ℕ) → entries (retain_keys t.values (λ p. same_handle p.handle h)) ≡ where_key place_cmp (λ p. same_handle p.handle h) (entries t.values)
of_handle t h =
    let p : Place → Bool = λ p. same_handle p.handle h in
    let alike : (q x : Place) → place_cmp q x ≡ Equal → same_handle x.handle h ≡ same_handle q.handle h = λ q x e. ap (λ (r : Place). same_handle r.handle h) (sym (place_antisymmetric q x e)) in
    let rising = is_sorted-where_key place_cmp p (entries t.values) (entries_sorted t.values) in
    let one : retain_keys t.values p ≡ from_sorted (where_key place_cmp p (entries t.values)) = same_map place_total place_antisymmetric _ _ (λ q.
    get-retain_keys t.values p q (alike q) ∙ ap (λ x. cond (p q) x None) (get-entries t.values q)
    ∙ sym (get-from_sorted place_cmp (where_key place_cmp p (entries t.values)) q rising ∙ find-where_key place_cmp p q (alike q) (entries t.values))) in
    ap entries one ∙ entries-from_sorted place_cmp (where_key place_cmp p (entries t.values)) rising

all_short : (t : Table) (h : List ℕ) → IsWithinLimits t → AllByRecursion IsShort (values_of t h)
all_short t h within = subst (λ es. AllByRecursion IsShort (map value_in es)) (sym (of_handle t h)) (kept_short (λ e. same_handle e.0.handle h) (entries t.values) within.short)

pub limits_bound : LimitsBound
limits_bound t names within listed = record {
  value = λ p. subst (λ (o : Option Value). of_value o ≤ value_most) (sym (get-entries t.values p)) (found_short (entries t.values) p within.short);
  heads = λ h. omega (arith, within.few h, heads_short (values_of t h) (all_short t h within));
  admins = λ h. omega (arith, within.few h, admins_short (values_of t h) (all_short t h within));
  names = listed;
}
