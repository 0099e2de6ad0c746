-- Which places lists lead to is decided among places that list no others, and so the union of masks that lead to a place is there.
use Rattle.std.proofs.Common.{◌≡◌, ℕ, zero, suc, ◌+◌, ◌-◌, ◌<◌, ◌≤◌, inl, inr, length, get_or, true, false, List, [], ◌∷◌, ◌++◌, append-nil, append_assoc, Option, Some, refl, sym, subst, arith, IsTrue}
use Rattle.std.specs.Bool.{Decides}
use Rattle.std.specs.List.{AllByRecursion}
use Rattle.std.proofs.lemmas.Bool.{cases_lt}
use Rattle.hdl_value.specs.Place.{Place}
use Rattle.hdl_rows.specs.Table.{Table}
use Rattle.hdl_reach.specs.Reach.{is_among, lists, join_masks, IsPath, IsChain, IsUnion}
use Rattle.hdl_reach.specs.Laws.{GrantsAmong}
use Rattle.hdl_reach.specs.Seen.{with_place, Extends}
use Rattle.hdl_reach.specs.Found.{IsWithin}
use Rattle.hdl_reach.specs.Search.{IsClosed, IsWalk, IsReached, IsSearched}
use Rattle.hdl_reach.proofs.Members.{at_among}
use Rattle.hdl_reach.proofs.Growth.{extends_none, extends_with}
use Rattle.hdl_reach.proofs.Orders.{within_itself, within_trans, join_first, join_second, join_least}
use Rattle.hdl_reach.proofs.Searches.{begins, ends, goes_on, falls, reached_more, reached_stays}

-- ---- what a place leads on to, of places that lead on to no others

get_any : (ps : List Place) (i : ℕ) (d e : Place) → i < length ps → get_or ps i d ≡ get_or ps i e
get_any [] i d e low = absurd (omega arith)
get_any (p ∷ ps) zero d e low = refl
get_any (p ∷ ps) (suc i) d e low = get_any ps i d e (omega arith)

-- all of these, each once
with_all : (old done now : List Place) → Extends old done now → (rest : List Place) → (new : List Place) × Extends old (done ++ rest) new
with_all old done now ext [] = (now, subst (λ ps. Extends old ps now) (sym (append-nil done)) ext)
with_all old done now ext (p ∷ rest) =
    let next = with_all old (done ++ p ∷ []) (with_place now p) (extends_with old done now (with_place now p) p ext refl) rest in
    (next.0, subst (λ ps. Extends old ps next.0) (append_assoc done (p ∷ []) rest) next.1)

begins_at : (on : Place → List Place) (start : Place) → IsSearched on (IsReached on start) (start ∷ []) 0 (with_place [] start)
begins_at on start =
    begins on (IsReached on start) (start ∷ []) (with_place [] start) (λ p here. at_among (IsReached on start) (start ∷ []) p (([], refl), tt) here) (extends_with [] [] [] (with_place [] start) start (extends_none []) refl)

ends_at : (on : Place → List Place) (start : Place) (seen : List Place) (next : ℕ) → IsSearched on (IsReached on start) (start ∷ []) next seen → length seen ≤ next → (p : Place) → Decides (is_among p seen) (IsReached on start p)
ends_at on start seen next h done p =
    ((λ here. at_among (IsReached on start) seen p h.reached here), (λ reached. reached_stays on seen start p (ends on (IsReached on start) (start ∷ []) seen next h done) h.begun.0 reached))

module _ (on : Place → List Place) (all : List Place) (closed : IsClosed on all all) (start : Place) (there : IsTrue (is_among start all)) where
  inside : (q : Place) → IsReached on start q → IsTrue (is_among q all)
  inside q reached = reached_stays on all start q closed there reached

  searched : (fuel next : ℕ) (seen : List Place) → IsSearched on (IsReached on start) (start ∷ []) next seen → length all - next ≤ fuel → (new : List Place) × ((p : Place) → Decides (is_among p new) (IsReached on start p))
  searched zero next seen h low = elim (cases_lt next (length seen)) [
    | inl short ↦ let less = falls on (IsReached on start) (start ∷ []) seen all next inside h short in absurd (omega arith)
    | inr done ↦ (seen, ends_at on start seen next h done)
  ]
  searched (suc fuel) next seen h low = elim (cases_lt next (length seen)) [
    | inl short ↦
        let here = get_or seen next start in
        let more = with_all seen [] seen (extends_none seen) (on here) in
        let less = falls on (IsReached on start) (start ∷ []) seen all next inside h short in
        searched fuel (next + 1) more.0 (goes_on on (IsReached on start) (start ∷ []) seen (on here) more.0 next here (λ q reached listed. reached_more on start here q reached listed) h short (get_any seen next start here short) refl more.1) (omega arith)
    | inr done ↦ (seen, ends_at on start seen next h done)
  ]

  pub decided : (new : List Place) × ((p : Place) → Decides (is_among p new) (IsReached on start p))
  decided = searched (length all) 0 (with_place [] start) (begins_at on start) (omega arith)

-- ---- walks over lists are chains

path_of : (t : Table) (r : Place) (ps : List Place) (k : Place) → IsWalk (lists t) r ps k → IsPath t r ps k
path_of t r [] k walk = walk
path_of t r (p ∷ ps) k walk = (walk.0, path_of t p ps k walk.1)

walk_of : (t : Table) (r : Place) (ps : List Place) (k : Place) → IsPath t r ps k → IsWalk (lists t) r ps k
walk_of t r [] k path = path
walk_of t r (p ∷ ps) k path = (path.0, walk_of t p ps k path.1)

pub chain_more : (t : Table) (r p q : Place) → IsChain t r p → IsTrue (is_among q (lists t p)) → IsChain t r q
chain_more t r p q chain listed =
    let more = reached_more (lists t) r p q (chain.0, walk_of t r chain.0 p chain.1) listed in (more.0, path_of t r more.0 q more.1)

-- ---- unions

module _ (t : Table) where
  -- what a union holds
  pub above : (k : Place) (so_far : Option ℕ) (gs : List (ℕ × Place)) (m : Option ℕ) → IsUnion t k so_far gs m → IsWithin so_far m × AllByRecursion (λ g. IsChain t g.1 k → IsWithin (Some g.0) m) gs
  above k so_far [] m is = (subst (IsWithin so_far) (sym is) (within_itself so_far), tt)
  above k so_far (g ∷ gs) m (inl is) =
      let rest = above k (Some (join_masks so_far g.0)) gs m is.1 in
      (within_trans so_far (Some (join_masks so_far g.0)) m (join_first so_far g.0) rest.0, ((λ chain. within_trans (Some g.0) (Some (join_masks so_far g.0)) m (join_second so_far g.0) rest.0), rest.1))
  above k so_far (g ∷ gs) m (inr is) = let rest = above k so_far gs m is.1 in (rest.0, ((λ chain. absurd (is.0 chain)), rest.1))

  -- and no more
  pub below : (k : Place) (so_far : Option ℕ) (gs : List (ℕ × Place)) (m b : Option ℕ) → IsUnion t k so_far gs m → IsWithin so_far b → AllByRecursion (λ g. IsChain t g.1 k → IsWithin (Some g.0) b) gs → IsWithin m b
  below k so_far [] m b is begun all = subst (λ n. IsWithin n b) (sym is) begun
  below k so_far (g ∷ gs) m b (inl is) begun all = below k (Some (join_masks so_far g.0)) gs m b is.1 (join_least so_far g.0 b begun (all.0 is.0)) all.1
  below k so_far (g ∷ gs) m b (inr is) begun all = below k so_far gs m b is.1 begun all.1

  module _ (all : List Place) (closed : IsClosed (lists t) all all) where
    pub union_there : (k : Place) (so_far : Option ℕ) (gs : List (ℕ × Place)) → GrantsAmong all gs → (m : Option ℕ) × IsUnion t k so_far gs m
    union_there k so_far [] among = (so_far, refl)
    union_there k so_far (g ∷ gs) among =
        let from = decided (lists t) all closed g.1 among.0 in
        elim (is_among k from.0) as (λ b. Decides b (IsReached (lists t) g.1 k) → (m : Option ℕ) × IsUnion t k so_far (g ∷ gs) m) [
          | true ↦ λ leads.
              let reached = leads.0 refl in
              let rest = union_there k (Some (join_masks so_far g.0)) gs among.1 in (rest.0, inl ((reached.0, path_of t g.1 reached.0 k reached.1), rest.1))
          | false ↦ λ leads.
              let rest = union_there k so_far gs among.1 in
              (rest.0, inr ((λ chain. let no : false ≡ true = leads.1 (chain.0, walk_of t g.1 chain.0 k chain.1) in absurd (cc)), rest.1))
        ] (from.1 k)
