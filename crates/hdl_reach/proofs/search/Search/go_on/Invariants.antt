use Rattle.std.proofs.Common.{◌≡◌, ◌⊎◌, ◌≤◌, ◌<◌, ◌+◌}
use Rattle.hdl_reach.specs.Search.{IsSearch, IsFurther, handle_of}
use Rattle.hdl_reach.specs.Looks.{looks_left}
use Rattle.hdl_reach.proofs.search.Search.go_on.Given as goal

abbrev pub invariant-loop-alloc : goal.invariant-loop-alloc
invariant-loop-alloc g l = record {
  same : g.R.Rows.content l.rows ≡ g.R.Rows.content l.fn.rows;
  answered : g.R.Rows.refused l.rows ≡ g.R.Rows.refused l.fn.rows;
  read : g.R.Rows.reads l.rows + l.left ≤ g.R.Rows.reads l.fn.rows + l.fn.most;
  search : IsSearch (g.R.Rows.content l.fn.rows) l.self;
  handle : handle_of l.self ≡ handle_of l.fn.self;
  further : (l.self ≡ l.fn.self) ⊎ IsFurther l.fn.self l.self;
  left : (l.self ≡ l.fn.self) ⊎ (looks_left (g.R.Rows.content l.fn.rows) l.self < looks_left (g.R.Rows.content l.fn.rows) l.fn.self);
}

abbrev pub decreases-loop-alloc : goal.decreases-loop-alloc
decreases-loop-alloc g l = l.left
