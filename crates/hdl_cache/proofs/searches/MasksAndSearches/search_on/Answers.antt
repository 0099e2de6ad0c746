use Rattle.hdl_reach.specs.Cost.{grants_cost}
use Rattle.hdl_reach.proofs.Costs.{first_read, both_read}
use Rattle.hdl_cache.specs.Cost.{lists_cost}
use Rattle.hdl_cache.proofs.searches.MasksAndSearches.search_on.Goals as goal

pub returns-in_err-search-clause-cost : goal.returns-in_err-search-clause-cost
returns-in_err-search-clause-cost g c = first_read (g.R.Rows.content c.args.rows.now) grants_cost lists_cost _ _ c.search_for.ensures.cost

pub returns-clause-cost : goal.returns-clause-cost
returns-clause-cost g c = both_read (g.R.Rows.content c.args.rows.now) (g.R.Rows.content c.search_for.new.rows) grants_cost lists_cost _ _ _ c.search_for.ensures.unchanged c.search_for.ensures.cost c.go_on.ensures.cost
