-- Finite maps and sets, by their answers.
use Rattle.std.proofs.Common.{◌≡◌, List, [], ◌∷◌, Bool, true, false, cond, ◌&&◌, T, Option, Some, None, map, refl, sym, ap, ◌∙◌, subst, Ordering, Less, Equal, Greater, is_eq, is_lt, option_map}
use Rattle.std.specs.Ordering.{eq_by_cmp}
use Rattle.std.specs.Cmp.{IsTotalOrder, tied_itself}
use Rattle.std.specs.List.{AllByRecursion}
use Rattle.std.specs.FinMap as map
use Rattle.std.specs.FinMap.{IsAntisymmetric, find, is_sorted}
use Rattle.std.specs.FinSet as set
use Rattle.std.specs.FinMap.Entries.{below_all, same_entries}
use Rattle.hdl_value.proofs.Places.{tied}
use Rattle.hdl_rows.proofs.Writes.{some_none}

-- what is retained, at an order by which only equal keys tie
pub get-retained : {K X : Type 0} {R : K → K → Ordering} → IsAntisymmetric R → (m : map.FinMap R X) (p : K → Bool) (q : K) → map.get (map.retain_keys m p) q ≡ cond (p q) (map.get m q) None
get-retained same m p q = map.get-retain_keys m p q (λ x e. ap p (sym (same q x e)))

pub contains-retained : {K : Type 0} {R : K → K → Ordering} → IsAntisymmetric R → (s : set.FinSet R) (p : K → Bool) (q : K) → set.contains (set.retain s p) q ≡ (set.contains s q && p q)
contains-retained same s p q = set.contains-retain s p q (λ x e. ap p (sym (same q x e)))

pub gated_and : (b x y : Bool) → (b ≡ true → x ≡ y) → (x && b) ≡ (y && b)
gated_and true x y f = ap (λ z. z && true) (f refl)
gated_and false true true f = refl
gated_and false true false f = refl
gated_and false false true f = refl
gated_and false false false f = refl

-- ---- each value of a map is found at some key

pub first_of : (a b : Bool) → T (a && b) → T a
first_of true b p = tt
first_of false b p = p

pub second_of : (a b : Bool) → T (a && b) → T b
second_of true b p = p
second_of false b p = absurd p

less : (o : Ordering) → T (is_lt o) → o ≡ Less
less Less p = refl
less Equal p = absurd p
less Greater p = absurd p

module _ {K X : Type 0} {R : K → K → Ordering} (o : IsTotalOrder R) where
  find_tied_below : (q k : K) (es : List (K × X)) → R q k ≡ Equal → T (below_all R k es) → find R q es ≡ None
  find_tied_below q k [] t h = refl
  find_tied_below q k (e ∷ es) t h =
      ap (λ r. cond (is_eq r) (Some e.1) (find R q es)) (o.congr q k e.0 t ∙ less _ (first_of _ _ h)) ∙ find_tied_below q k es t (second_of _ _ h)

  find_later : (q : K) (v : X) (e : K × X) (es : List (K × X)) → T (below_all R e.0 es) → find R q es ≡ Some v → (b : Bool) → eq_by_cmp R q e.0 ≡ b → cond b (Some e.1) (find R q es) ≡ Some v
  find_later q v e es h is true t = absurd (some_none v (sym is ∙ find_tied_below q e.0 es (tied _ t) h))
  find_later q v e es h is false t = is

  each_found : (P : X → Type 0) (es : List (K × X)) → T (is_sorted R es) → ((q : K) (v : X) → find R q es ≡ Some v → P v) → AllByRecursion P (map (λ e. e.1) es)
  each_found P [] h f = tt
  each_found P (e ∷ es) h f = (
    f e.0 e.1 (ap (λ r. cond (is_eq r) (Some e.1) (find R e.0 es)) (tied_itself o e.0)),
    each_found P es (second_of _ _ h) (λ q v is. f q v (find_later q v e es (first_of _ _ h) is _ refl)),
  )

  pub each_value : (P : X → Type 0) (m : map.FinMap R X) → ((q : K) (v : X) → map.get m q ≡ Some v → P v) → AllByRecursion P (map.values m)
  each_value P m f = each_found P (map.entries m) (map.entries_sorted m) (λ q v is. f q v (map.get-entries m q ∙ is))

-- ---- maps whose values are alike under a function have alike lists of values

module _ {K X Y : Type 0} (R : K → K → Ordering) (f : X → Y) where
  abbrev shown_as : List (K × X) → List (K × Y)
  shown_as [] = []
  shown_as (e ∷ es) = (e.0, f e.1) ∷ shown_as es

  below_shown : (k : K) (es : List (K × X)) → below_all R k (shown_as es) ≡ below_all R k es
  below_shown k [] = refl
  below_shown k (e ∷ es) = ap (λ b. is_lt (R k e.0) && b) (below_shown k es)

  sorted_shown : (es : List (K × X)) → is_sorted R (shown_as es) ≡ is_sorted R es
  sorted_shown [] = refl
  sorted_shown (e ∷ es) = λ i. below_shown e.0 es i && sorted_shown es i

  chosen : (b : Bool) (x : X) (y : Option X) → cond b (Some (f x)) (option_map f y) ≡ option_map f (cond b (Some x) y)
  chosen true x y = refl
  chosen false x y = refl

  find_shown : (q : K) (es : List (K × X)) → find R q (shown_as es) ≡ option_map f (find R q es)
  find_shown q [] = refl
  find_shown q (e ∷ es) = ap (cond (eq_by_cmp R q e.0) (Some (f e.1))) (find_shown q es) ∙ chosen (eq_by_cmp R q e.0) e.1 (find R q es)

  values_shown : (es : List (K × X)) → map (λ e. e.1) (shown_as es) ≡ map f (map (λ e. e.1) es)
  values_shown [] = refl
  values_shown (e ∷ es) = ap (λ ys. f e.1 ∷ ys) (values_shown es)

pub alike_values : {K X Y : Type 0} {R : K → K → Ordering} → IsTotalOrder R → IsAntisymmetric R → (f : X → Y) (m n : map.FinMap R X) → ((q : K) → option_map f (map.get m q) ≡ option_map f (map.get n q)) → map f (map.values m) ≡ map f (map.values n)
alike_values {R = R} o same f m n is =
    let es = map.entries m in
    let fs = map.entries n in
    let lists : shown_as R f es ≡ shown_as R f fs =
    same_entries R o same (shown_as R f es) (shown_as R f fs)
    (subst T (sym (sorted_shown R f es)) (map.entries_sorted m))
    (subst T (sym (sorted_shown R f fs)) (map.entries_sorted n))
    (λ q. find_shown R f q es ∙ ap (option_map f) (sym (map.get-entries m q)) ∙ is q ∙ ap (option_map f) (map.get-entries n q) ∙ sym (find_shown R f q fs)) in
    sym (values_shown R f es) ∙ ap (map (λ e. e.1)) lists ∙ values_shown R f fs
