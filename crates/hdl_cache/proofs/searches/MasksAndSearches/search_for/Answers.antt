use Rattle.std.proofs.Common.{rules, Some, IfSome, subst}
use Rattle.hdl_name.specs.Name.{canonical}
use Rattle.hdl_reach.specs.Search.{IsSearch}
use Rattle.hdl_reach.proofs.Costs.{grants_read}
use Rattle.hdl_cache.proofs.searches.MasksAndSearches.search_for.Goals as goal

pub returns-in-Some-clause-of_table : goal.returns-in-Some-clause-of_table
returns-in-Some-clause-of_table g c = (c.take.ensures.of_table (g.R.Rows.content c.args.rows.now) c.requires.of_table).0

pub returns-in-Some-clause-search : goal.returns-in-Some-clause-search
returns-in-Some-clause-search g c = ((c.in-Some.ensures.of_table (g.R.Rows.content c.args.rows.now) c.requires.of_table).1, c.in-Some.ensures.handle)

pub returns-clause-of_table : goal.returns-clause-of_table
returns-clause-of_table g c = (c.take.ensures.of_table (g.R.Rows.content c.args.rows.now) c.requires.of_table).0

pub returns-clause-cost : goal.returns-clause-cost
returns-clause-cost g c = grants_read (g.R.Rows.content c.args.rows.now) (canonical c.args.name.now) _ _ c.begin.ensures.cost
