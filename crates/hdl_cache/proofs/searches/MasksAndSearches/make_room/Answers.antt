use Rattle.std.proofs.Common.{All, sym, subst}
use Rattle.hdl_reach.specs.Search.{IsSearch}
use Rattle.hdl_cache.proofs.Held.{all_removed}
use Rattle.hdl_cache.proofs.searches.MasksAndSearches.make_room.Goals as goal

pub returns : goal.returns
returns c = λ t h. (h.0, subst (All (IsSearch t)) (sym c.remove.ensures.items) (all_removed (IsSearch t) c.args.self.now.searches.items 0 h.1))
