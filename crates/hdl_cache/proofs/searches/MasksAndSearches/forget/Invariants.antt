use Rattle.std.proofs.Common.{◌≡◌, [], All}
use Rattle.hdl_name.specs.Name.{canonical}
use Rattle.hdl_rows.specs.Table.{Table}
use Rattle.hdl_reach.specs.Search.{IsSearch, AgreeBeside}
use Rattle.hdl_cache.proofs.searches.MasksAndSearches.forget.Given as goal

abbrev pub invariant-loop-search : goal.invariant-loop-search
invariant-loop-search l = record {
  none : l.self.kept ≡ [];
  searches : (t u : Table) → AgreeBeside (canonical l.name) t u → All (IsSearch t) l.yielded → All (IsSearch u) l.self.searches.items;
}
