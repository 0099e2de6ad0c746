-- Every run has a cover: what the first table's values refer to, and what the values refer to that u writes.
use Rattle.std.proofs.Common.{ℕ, List, [], ◌∷◌, ◌++◌, true, false, cond, Option, Some, None, sym, subst, IsTrue}
use Rattle.std.proofs.Common.{map as map_list}
use Rattle.std.specs.List.{flat_map}
use Rattle.std.specs.Ordering.{eq_by_cmp}
use Rattle.std.specs.FinMap as map
use Rattle.hdl_value.specs.Place.{Place, place_cmp}
use Rattle.hdl_value.specs.Refs.{refs_of, value_grants, listed_places}
use Rattle.hdl_value.specs.declared.value.Value.{Value}
use Rattle.hdl_rows.specs.Table.{Table, at}
use Rattle.hdl_reach.specs.Reach.{is_among, listed_in, lists}
use Rattle.hdl_reach.proofs.Members.{among_front, among_back}
use Rattle.hdl_laws.specs.Isolation.{EachCovered, own_writes}
use Rattle.hdl_laws.specs.Laws.{HasCover}

abbrev pub refs_in : Option Value → List Place
refs_in None = []
refs_in (Some v) = refs_of v

abbrev pub all_refs : List Value → List Place
all_refs vs = flat_map refs_of vs

in_refs : (es : List (Place × Value)) (p q : Place) → IsTrue (is_among q (refs_in (map.find place_cmp p es))) → IsTrue (is_among q (all_refs (map_list (λ (e : Place × Value). e.1) es)))
in_refs [] p q h = h
in_refs (e ∷ es) p q h =
    elim (eq_by_cmp place_cmp p e.0) as (λ b. IsTrue (is_among q (refs_in (cond b (Some e.1) (map.find place_cmp p es)))) → IsTrue (is_among q (refs_of e.1 ++ all_refs (map_list (λ (f : Place × Value). f.1) es)))) [
      | true ↦ λ k. among_front (refs_of e.1) _ q k
      | false ↦ λ k. among_back (refs_of e.1) _ q (in_refs es p q k)
    ] h

at_refs : (t : Table) (p q : Place) → IsTrue (is_among q (refs_in (at t p))) → IsTrue (is_among q (all_refs (map.values t.values)))
at_refs t p q h = in_refs (map.entries t.values) p q (subst (λ o. IsTrue (is_among q (refs_in o))) (map.get-entries t.values p) h)

listed_refs : (o : Option Value) (q : Place) → IsTrue (is_among q (listed_in o)) → IsTrue (is_among q (refs_in o))
listed_refs None q h = h
listed_refs (Some v) q h = among_back (map_list (λ g. g.1) (value_grants v)) (listed_places v) q h

each_covered : (C : List Place) (vs : List Value) → ((q : Place) → IsTrue (is_among q (all_refs vs)) → IsTrue (is_among q C)) → EachCovered C vs
each_covered C [] f = tt
each_covered C (v ∷ vs) f = (λ q h. f q (among_front (refs_of v) _ q h), each_covered C vs (λ q h. f q (among_back (refs_of v) _ q h)))

pub has_cover : HasCover
has_cover w ts u =
    let first = all_refs (map.values w.table.values) in
    let more = all_refs (own_writes w.site u ts) in (
      first ++ more,
      record {
        start = record {
          rows = λ p v hosted is q h. among_front first more q (at_refs w.table p q (subst (λ o. IsTrue (is_among q (refs_in o))) (sym is) h));
          onward = λ r p here h. among_front first more p (at_refs w.table r p (listed_refs (at w.table r) p h));
        };
        written = each_covered (first ++ more) (own_writes w.site u ts) (λ q h. among_back first more q h);
      },
    )
