use Rattle.std.proofs.Common.{◌≡◌, ◌≤◌, ◌+◌, take}
use Rattle.hdl_name.specs.Name.{canonical}
use Rattle.hdl_reach.specs.Granted.{all_granted_by, all_read_by}
use Rattle.hdl_reach.specs.Views.{grants_in}
use Rattle.hdl_reach.proofs.grants.grants_by.Given as goal

abbrev pub invariant-loop-head : goal.invariant-loop-head
invariant-loop-head g l = record {
  same : g.R.Rows.content l.rows ≡ g.R.Rows.content l.fn.rows;
  answered : g.R.Rows.refused l.rows ≡ g.R.Rows.refused l.fn.rows;
  name : l.here.name ≡ l.fn.here.name;
  found : grants_in l.all.items ≡ all_granted_by (g.R.Rows.content l.fn.rows) (canonical l.fn.here.name) (take l.head-index l.heads);
  read : g.R.Rows.reads l.rows ≤ g.R.Rows.reads l.fn.rows + all_read_by (g.R.Rows.content l.fn.rows) (canonical l.fn.here.name) (take l.head-index l.heads);
}
