use Rattle.std.proofs.Common.{◌≡◌, ◌∙◌, Some, All, refl, sym, ap, subst, map-id, rules}
use Rattle.std.proofs.lemmas.Iterator.Adapters.{YieldsList-from_vec}
use Rattle.std.proofs.lemmas.Iterator.Consumers.{YieldsList-end}
use Rattle.std.proofs.lemmas.List.Elements.{All-pop}
use Rattle.hdl_reach.specs.Search.{IsSearch}
use Rattle.hdl_cache.proofs.Held.{all_pushed}
use Rattle.hdl_cache.proofs.searches.MasksAndSearches.forget.Goals as goal

pub loop-search-preserved-then-is_apart_from : goal.loop-search-preserved-then-is_apart_from
loop-search-preserved-then-is_apart_from c = record {
  none = c.loop-search.invariant.none;
  searches = λ t u agree all.
      let both = All-pop (IsSearch t) _ c.loop-search.yielded (Some c.in-Some.search) refl all in
      all_pushed (IsSearch u) c.push.result c.loop-search.self.searches.items c.push.new.self.items c.in-Some.search c.push.ensures.items
      (c.loop-search.invariant.searches t u agree both.0) (c.is_apart_from.ensures c.if-is_apart_from.true t u agree both.1);
}

pub loop-search-preserved-then-is_apart_from-2 : goal.loop-search-preserved-then-is_apart_from-2
loop-search-preserved-then-is_apart_from-2 c = record {
  none = c.loop-search.invariant.none;
  searches = λ t u agree all.
      let both = All-pop (IsSearch t) _ c.loop-search.yielded (Some c.in-Some.search) refl all in
      all_pushed (IsSearch u) c.push.result c.loop-search.self.searches.items c.push.new.self.items c.in-Some.search c.push.ensures.items
      (c.loop-search.invariant.searches t u agree both.0) (c.is_apart_from.ensures c.if-is_apart_from.true t u agree both.1);
}

pub loop-search-preserved : goal.loop-search-preserved
loop-search-preserved c = record {
  none = c.loop-search.invariant.none;
  searches = λ t u agree all. c.loop-search.invariant.searches t u agree (All-pop (IsSearch t) _ c.loop-search.yielded (Some c.in-Some.search) refl all).0;
}

pub returns : goal.returns
returns c = λ t u agree h.
    let gives = c.into_iter-search-iterator.ensures.into_iter_gives in
    let road = YieldsList-from_vec c.replace-searches.result.items gives.0 (gives.1 ∙ c.replace-searches.result.ok.0) in
    let each : c.loop-search.yielded ≡ c.replace-searches.result.items = sym (map-id c.loop-search.yielded) ∙ (YieldsList-end road c.loop-search.yielded c.loop-search.search-iterator c.loop-search.yielded_by c.next.result c.next.new.self c.in-None.is c.next.ensures.steps).0 in
    let all : c.loop-search.yielded ≡ c.args.self.now.searches.items = each ∙ ap (λ searches. searches.items) c.replace-searches.ensures.value in
    (search (rules, c.loop-search.invariant.none), c.loop-search.invariant.searches t u agree (subst (All (IsSearch t)) (sym all) h.1))
