-- What is found where nothing waits.
use Rattle.std.proofs.Common.{◌≡◌, ◌⊎◌, inl, inr, ℕ, Bool, true, false, ◌||◌, cond, List, [], ◌∷◌, map, length, arith, Option, Some, None, option_map, is_some, Result, Ok, Err, IfOk, refl, sym, ap, subst, ◌∙◌, IsTrue, IsSome, true≢false}
use Rattle.std.specs.List.{AllByRecursion}
use Rattle.std.specs.Map.{lookup}
use Rattle.hdl_value.specs.Place.{Place, same_place}
use Rattle.hdl_value.specs.declared.admin.AdminMask.{AdminMask}
use Rattle.hdl_rows.specs.Table.{Table, values_of}
use Rattle.hdl_reach.specs.declared.found.Found.{Found}
use Rattle.hdl_reach.specs.declared.found.Known.{Known}
use Rattle.hdl_reach.specs.declared.search.Search.{Search}
use Rattle.hdl_reach.specs.Reach.{is_among, lists, grants, IsPath, IsChain, IsUnion, IsMask}
use Rattle.hdl_reach.specs.Laws.{GrantsAmong}
use Rattle.hdl_reach.specs.Seen.{places, PlaceKey, place_at}
use Rattle.hdl_reach.specs.Found.{IsWithin, mark, known_at, mask_in, mask_at, waits}
use Rattle.hdl_reach.specs.Search.{handle_of, IsClosed, PassesOn, IsFound, IsSearch, IsDone}
use Rattle.hdl_reach.specs.Views.{mask_of}
use Rattle.hdl_reach.proofs.Members.{all_weaker, each_among}
use Rattle.hdl_reach.proofs.Chains.{union_there, above, below, chain_more}
use Rattle.hdl_reach.proofs.Orders.{within_itself, within_trans, within_both, some_within}

-- ---- the places that are known

abbrev pub known_places : Found → List Place
known_places f = map (λ (e : PlaceKey × Known). place_at e.0) f.known.entries

known_among : (es : List (PlaceKey × Known)) (p : Place) → is_some (lookup (λ (k : PlaceKey). same_place p (place_at k)) es) ≡ is_among p (map (λ (e : PlaceKey × Known). place_at e.0) es)
known_among [] p = refl
known_among (e ∷ es) p = by (same_place p (place_at e.0)) (known_among es p)
  where
    by : (b : Bool) → is_some (lookup (λ (k : PlaceKey). same_place p (place_at k)) es) ≡ is_among p (map (λ (x : PlaceKey × Known). place_at x.0) es) → is_some (cond b (Some e.1) (lookup (λ (k : PlaceKey). same_place p (place_at k)) es)) ≡ (b || is_among p (map (λ (x : PlaceKey × Known). place_at x.0) es))
    by true same = refl
    by false same = same

mask_there : (o : Option Known) → IsSome (mask_in (option_map mark o)) → is_some o ≡ true
mask_there None h = h
mask_there (Some k) h = refl

there_masked : (o : Option Known) → is_some o ≡ true → IsSome (mask_in (option_map mark o))
there_masked None h = h
there_masked (Some k) h = refl

-- ---- the masks

none_left : {X : Type 0} (xs : List X) → length xs ≡ 0 → xs ≡ []
none_left [] is = refl
none_left (x ∷ xs) is = absurd (omega (arith, is))

diagonal : (Q : ℕ × Place → Place → Type 0) (gs : List (ℕ × Place)) → ((k : Place) → AllByRecursion (λ g. Q g k) gs) → AllByRecursion (λ g. Q g g.1) gs
diagonal Q [] f = tt
diagonal Q (g ∷ gs) f = ((f g.1).0, diagonal Q gs (λ k. (f k).1))

module _ (t : Table) (gs : List (ℕ × Place)) (f : Found) (h : IsFound t gs f) (done : length f.waiting.items ≡ 0) where
  passes : (p : Place) → PassesOn t (mask_at f) p
  passes p = by (h.passed p)
    where
      by : IsTrue (waits (known_at f p)) ⊎ PassesOn t (mask_at f) p → PassesOn t (mask_at f) p
      by (inl waiting) = absurd (true≢false (sym (h.waiting p waiting) ∙ ap (λ rs. is_among p (places rs)) (none_left f.waiting.items done)))
      by (inr on) = on

  rises : (r : Place) (ps : List Place) (k : Place) → IsPath t r ps k → IsWithin (mask_at f r) (mask_at f k)
  rises r [] k path = subst (λ p. IsWithin (mask_at f r) (mask_at f p)) path (within_itself (mask_at f r))
  rises r (p ∷ ps) k path = within_trans (mask_at f r) (mask_at f p) (mask_at f k) (passes r p path.0) (rises p ps k path.1)

  abbrev all : List Place
  all = known_places f

  closed : IsClosed (lists t) all all
  closed = each_among _ all (λ p there. each_among _ (lists t p) (λ q listed. sym (known_among f.known.entries q) ∙ mask_there _ (some_within (mask_at f p) (mask_at f q) (passes p q listed) (there_masked _ (known_among f.known.entries p ∙ there)))))

  starts : GrantsAmong all gs
  starts = all_weaker _ _ (λ g here. sym (known_among f.known.entries g.1) ∙ mask_there _ (some_within (Some g.0) (mask_at f g.1) here refl)) gs h.granted

  -- the union of the masks that lead to a place
  union : (k : Place) → (m : Option ℕ) × IsUnion t k None gs m
  union k = union_there t all closed k None gs starts

  abbrev bound : Place → Option ℕ
  bound k = (union k).0

  bound_passes : (p : Place) → PassesOn t bound p
  bound_passes p q listed =
      below t p None gs (bound p) (bound q) (union p).1 tt (all_weaker _ _ (λ g over chain. over (chain_more t g.1 p q chain listed)) gs (above t q None gs (bound q) (union q).1).1)

  bound_granted : AllByRecursion (λ g. IsWithin (Some g.0) (bound g.1)) gs
  bound_granted = all_weaker _ _ (λ g over. over ([], refl)) gs (diagonal (λ g k. IsChain t g.1 k → IsWithin (Some g.0) (bound k)) gs (λ k. (above t k None gs (bound k) (union k).1).1))

  pub mask_found : (k : Place) → IsUnion t k None gs (mask_at f k)
  mask_found k =
      let least = h.least bound (bound_granted, λ p there. bound_passes p) k in
      let whole = below t k None gs (bound k) (mask_at f k) (union k).1 tt (all_weaker _ _ (λ g here chain. within_trans (Some g.0) (mask_at f g.1) (mask_at f k) here (rises g.1 chain.0 k chain.1)) gs h.granted) in
      subst (IsUnion t k None gs) (within_both (bound k) (mask_at f k) whole least) (union k).1

pub mask_answered : {E : Type 0} (t : Table) (s : Search) (k : Place) (r : Result (Option AdminMask) E) → IsSearch t s → IsDone s → IfOk r (λ m. mask_of m ≡ mask_at s.found k) → IfOk r (λ m. IsMask t (handle_of s) k (mask_of m))
mask_answered t s k (Err e) h done is = tt
mask_answered t s k (Ok m) h done is = subst (IsUnion t k None (grants (values_of t (handle_of s)))) (sym is) (mask_found t (grants (values_of t (handle_of s))) s.found h done k)
