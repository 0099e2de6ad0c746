-- The order in which rows are put doesn't matter.
use Rattle.std.proofs.Common.{◌≡◌, List, [], ◌∷◌, map, Bool, true, false, cond, Option, Some, None, Ordering, is_eq, refl, sym, ap, subst, ◌∙◌, inl, inr}
use Rattle.std.specs.Prelude.{Contains}
use Rattle.std.specs.Cmp.{IsTotalOrder, tied_itself}
use Rattle.std.specs.Ordering.{eq_by_cmp}
use Rattle.std.specs.FinMap as map
use Rattle.std.specs.FinMap.{find, IsAntisymmetric}
use Rattle.std.specs.FinSet as set
use Rattle.std.specs.List.{AllByRecursion, IsDistinct}
use Rattle.std.specs.List.Sorted.{IsPermutation}
use Rattle.std.proofs.lemmas.Cmp.{eq_by_cmp_equiv}
use Rattle.std.proofs.lemmas.List.Sorted.{IsPermutation-sym, IsPermutation-map, Contains-permutation, list_any-IsPermutation}
use Rattle.std.proofs.lemmas.Map.Keys.{IsDistinct-head, IsDistinct-tail, IsDistinct-IsPermutation}
use Rattle.std.proofs.lemmas.Map.Made.{AllPairs-from_IsDistinct, IsDistinct-from_AllPairs}
use Rattle.std.specs.Prelude.{Decides}
use Rattle.std.proofs.lemmas.Simd.{map-map}
use Rattle.hdl_name.specs.Name.{canonical}
use Rattle.hdl_value.specs.declared.value.Value.{Value}
use Rattle.hdl_value.specs.Place.{Place, handle_cmp, place_cmp, same_place}
use Rattle.hdl_value.proofs.Places.{tied, handle_total, handle_antisymmetric, place_total, place_antisymmetric, places_equal, place_itself}
use Rattle.hdl_value.proofs.FieldLaws.{some_is}
use Rattle.hdl_value.proofs.Referred.{none_in, here, there, cases_in, in_map}
use Rattle.hdl_rows.proofs.Writes.{some_none}
use Rattle.hdl_tenants.specs.Register.{Row, place, AreDistinct}
use Rattle.hdl_core.specs.Opening.{entry_of, opening_table}

element : {A : Type 0} (P : A → Type 0) (xs : List A) (x : A) → AllByRecursion P xs → Contains xs x → P x
element P [] x all h = absurd (none_in x h)
element P (y ∷ xs) x all h = elim (cases_in y x xs h) [ inl e ↦ subst P e all.0 | inr later ↦ element P xs x all.1 later ]

module _ {K X : Type 0} {R : K → K → Ordering} (o : IsTotalOrder R) (exact : IsAntisymmetric R) where
  abbrev keys : List (K × X) → List K
  keys = map (λ e. e.0)

  -- what is found stands there
  found : (es : List (K × X)) (k : K) (v : X) → find R k es ≡ Some v → Contains es (k, v)
  found [] k v e = absurd (some_none v (sym e))
  found (f ∷ es) k v e = by_test (eq_by_cmp R k f.0) refl e (found es k v)
    where
      by_test : (b : Bool) → eq_by_cmp R k f.0 ≡ b → cond b (Some f.1) (find R k es) ≡ Some v → (find R k es ≡ Some v → Contains es (k, v)) → Contains (f ∷ es) (k, v)
      by_test true is e rest = subst (Contains (f ∷ es)) (λ i. (sym (exact k f.0 (tied _ is)) i, some_is f.1 v e i)) (here f es)
      by_test false is e rest = there f (k, v) es (rest e)

  -- what stands there is found, where no two have one key
  finds : (es : List (K × X)) (k : K) (v : X) → IsDistinct (eq_by_cmp R) (keys es) → Contains es (k, v) → find R k es ≡ Some v
  finds [] k v distinct h = absurd (none_in (k, v) h)
  finds (f ∷ es) k v distinct h = elim (cases_in f (k, v) es h) [
    | inl e ↦ ap (λ (g : K × X). cond (eq_by_cmp R k g.0) (Some g.1) (find R k es)) e ∙ ap (λ b. cond b (Some v) (find R k es)) (ap is_eq (tied_itself o k))
    | inr later ↦
        let others = element (λ q. eq_by_cmp R f.0 q ≡ false) (keys es) k (IsDistinct-head (eq_by_cmp R) f.0 (keys es) distinct) (in_map (λ (e : K × X). e.0) (k, v) es later) in
        ap (λ b. cond b (Some f.1) (find R k es)) ((eq_by_cmp_equiv o).symm k f.0 ∙ others) ∙ finds es k v (IsDistinct-tail (eq_by_cmp R) f.0 (keys es) distinct) later
  ]

  pub same_found : (es fs : List (K × X)) → IsDistinct (eq_by_cmp R) (keys es) → IsPermutation es fs → (k : K) → find R k fs ≡ find R k es
  same_found es fs distinct moved k = both (find R k es) (find R k fs) refl refl
    where
      still : IsDistinct (eq_by_cmp R) (keys fs)
      still = IsDistinct-IsPermutation (eq_by_cmp R) (eq_by_cmp_equiv o).symm (keys es) (keys fs) (IsPermutation-map (λ e. e.0) es fs moved) distinct

      both : (a b : Option X) → find R k es ≡ a → find R k fs ≡ b → b ≡ a
      both (Some v) b e f = sym f ∙ finds fs k v still (Contains-permutation es fs (k, v) moved (found es k v e))
      both None None e f = refl
      both None (Some v) e f = absurd (some_none v (sym (finds es k v distinct (Contains-permutation fs es (k, v) (IsPermutation-sym es fs moved) (found fs k v f))) ∙ e))

places_decide : (p q : Place) → Decides (same_place p q) (p ≡ q)
places_decide p q = (places_equal p q, λ e. ap (same_place p) (sym e) ∙ place_itself p)

distinct_places : (rows : List Row) → AreDistinct (map place rows) → IsDistinct same_place (map place rows)
distinct_places rows distinct = IsDistinct-from_AllPairs places_decide (map place rows) distinct

pub distinct_moved : (rows order : List Row) → AreDistinct (map place rows) → IsPermutation rows order → AreDistinct (map place order)
distinct_moved rows order distinct moved =
    AllPairs-from_IsDistinct places_decide (map place order)
    (IsDistinct-IsPermutation same_place (eq_by_cmp_equiv place_total).symm (map place rows) (map place order) (IsPermutation-map place rows order moved) (distinct_places rows distinct))

-- rows in another order make the same table
pub opening_moved : (rows order : List Row) → AreDistinct (map place rows) → IsPermutation rows order → opening_table order ≡ opening_table rows
opening_moved rows order distinct moved =
    let handle = λ (row : Row). canonical row.0 in
    let handles : set.from_list {R = handle_cmp} (map (λ (row : Row). canonical row.0) order) ≡ set.from_list (map (λ (row : Row). canonical row.0) rows) =
    set.same_set handle_total handle_antisymmetric _ _ (λ q. set.contains-from_list handle_total (map handle order) q
    ∙ sym (list_any-IsPermutation (eq_by_cmp handle_cmp q) (map handle rows) (map handle order) (IsPermutation-map handle rows order moved))
    ∙ sym (set.contains-from_list handle_total (map handle rows) q)) in
    let apart : IsDistinct same_place (map (λ e. e.0) (map entry_of rows)) = subst (IsDistinct same_place) (sym (map-map (λ (e : Place × Value). e.0) entry_of rows)) (distinct_places rows distinct) in
    let values : map.from_entries {R = place_cmp} (map entry_of order) ≡ map.from_entries (map entry_of rows) =
    map.same_map place_total place_antisymmetric _ _ (λ p. map.get-from_entries place_total (map entry_of order) p
    ∙ same_found place_total place_antisymmetric (map entry_of rows) (map entry_of order) apart (IsPermutation-map entry_of rows order moved) p
    ∙ sym (map.get-from_entries place_total (map entry_of rows) p)) in
    λ i. record { handles = handles i; values = values i }
