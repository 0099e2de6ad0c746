-- The keys of one handle lie between it with index 0 and the handle that comes next.
use Rattle.std.proofs.Common.{◌≡◌, ◌≢◌, ℕ, zero, suc, List, [], ◌∷◌, ◌++◌, Bool, true, false, not, Option, Some, None, option_map, is_some, Ordering, Less, Equal, refl, sym, ap, subst, ◌∙◌, IsSome, true≢false, is_gt, arith}
use Rattle.std.specs.Prelude.{MatchOption}
use Rattle.std.specs.BTreeMap.{get}
use Rattle.std.specs.BTreeMap.Range.{IsRangeOf}
use Rattle.std.specs.declared.ops.Bound.TheVariants.{Included, Excluded}
use Rattle.std.specs.Cmp.{nat_cmp_is, nat_cmp_total, tied_itself}
use Rattle.std.specs.Ordering.{nat_cmp, ordering_then}
use Rattle.hdl_value.specs.Place.{Place, handle_cmp}
use Rattle.hdl_value.proofs.Places.{handle_total}
use Rattle.hdl_reach.specs.declared.found.Found.{Found}
use Rattle.hdl_reach.specs.declared.found.Known.{Known}
use Rattle.hdl_reach.specs.Seen.{PlaceKey, place_at, key_cmp}
use Rattle.hdl_reach.specs.Found.{mark, known_at}

-- the octets that follow in order
longer : (h : List ℕ) → handle_cmp h (h ++ 0 ∷ []) ≡ Less
longer [] = refl
longer (x ∷ h) = ap (λ o. ordering_then o (handle_cmp h (h ++ 0 ∷ []))) (tied_itself nat_cmp_total x) ∙ longer h

pub forward : (h next : List ℕ) (o : Ordering) → next ≡ h ++ 0 ∷ [] → is_gt (ordering_then (handle_cmp h next) o) ≡ false
forward h next o is = ap (λ (ns : List ℕ). is_gt (ordering_then (handle_cmp h ns) o)) is ∙ ap (λ c. is_gt (ordering_then c o)) (longer h)

low : (n : ℕ) → is_gt (nat_cmp 0 n) ≡ false
low zero = ap is_gt (sym (nat_cmp_is 0 0 Equal refl))
low (suc n) = ap is_gt (sym (nat_cmp_is 0 (suc n) Less (omega arith)))

get_known : (o : Option Known) → o ≡ None → IsSome (option_map mark o) → ⊥
get_known None is h = true≢false (sym h)
get_known (Some k) is h = true≢false (ap is_some is)

module _ (f : Found) (h : List ℕ) (lo hi : PlaceKey) (r : List (PlaceKey × Known)) (first : lo.0.items ≡ h) (least : lo.1 ≡ 0) (next : hi.0.items ≡ h ++ 0 ∷ []) where
  pub none_of : IsRangeOf key_cmp (Included lo) (Excluded hi) f.known r → r ≡ [] → (p : Place) → IsSome (known_at f p) → p.handle ≢ h
  none_of range none p there same =
      let q : PlaceKey = (lo.0, p.index) in
      let is : place_at q ≡ p = λ i. record { handle = (first ∙ sym same) i; index = p.index } in
      let from : is_gt (key_cmp lo q) ≡ false = ap (λ o. is_gt (ordering_then o (nat_cmp lo.1 p.index))) (tied_itself handle_total lo.0.items) ∙ ap (λ (n : ℕ). is_gt (nat_cmp n p.index)) least ∙ low p.index in
      let to : key_cmp q hi ≡ Less = (λ i. ordering_then (handle_cmp (first i) (next i)) (nat_cmp p.index hi.1)) ∙ ap (λ o. ordering_then o (nat_cmp p.index hi.1)) (longer h) in
      let absent : get key_cmp f.known q ≡ None = range.5 none q (from, to) in
      get_known (get key_cmp f.known q) absent (subst (λ s. IsSome (known_at f s)) (sym is) there)

-- an iterator that gives nothing at once had nothing
pub nothing : {X : Type 0} (A B : Type 0) (P : X → Type 0) (o : Option X) (b : Bool) → is_some o ≡ not b → b ≡ true → MatchOption o (A × B) P → A
nothing A B P None b is none empty = empty.0
nothing A B P (Some x) b is none empty = absurd (true≢false (is ∙ ap not none))
