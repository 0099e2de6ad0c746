use Rattle.std.proofs.Common.{◌≡◌}
use Rattle.hdl_name.specs.Name.{canonical}
use Rattle.hdl_reach.specs.Search.{IsSearch, handle_of}
use Rattle.hdl_reach.specs.Looks.{looks_left}
use Rattle.hdl_reach.proofs.administrators.mask.Given as goal

abbrev pub invariant-loop-search : goal.invariant-loop-search
invariant-loop-search g l = record {
  same : g.R.Rows.content l.rows ≡ g.R.Rows.content l.fn.rows;
  answered : g.R.Rows.refused l.rows ≡ g.R.Rows.refused l.fn.rows;
  search : IsSearch (g.R.Rows.content l.fn.rows) l.search;
  handle : handle_of l.search ≡ canonical l.fn.name;
}

abbrev pub decreases-loop-search : goal.decreases-loop-search
decreases-loop-search g l = looks_left (g.R.Rows.content l.fn.rows) l.search
