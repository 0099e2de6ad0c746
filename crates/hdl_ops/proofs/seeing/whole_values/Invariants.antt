use Rattle.std.proofs.Common.{◌≡◌, ◌≤◌, ◌+◌, take}
use Rattle.hdl_limits.specs.Counts.{at_most_u64}
use Rattle.hdl_name.specs.Name.{canonical}
use Rattle.hdl_reach.specs.Cost.{ReadsWithin}
use Rattle.hdl_ops.specs.Cost.{shown_cost}
use Rattle.hdl_ops.specs.Seeing.{cost_of_reading, whole_of}
use Rattle.hdl_ops.proofs.seeing.whole_values.Given as goal

abbrev pub invariant-loop-head : goal.invariant-loop-head
invariant-loop-head g l = record {
  same : g.R.Rows.content l.rows ≡ g.R.Rows.content l.fn.rows;
  answered : g.R.Rows.refused l.rows ≡ g.R.Rows.refused l.fn.rows;
  name : l.place.name ≡ l.fn.place.name;
  read : l.all.items ≡ whole_of (g.R.Rows.content l.fn.rows) (canonical l.fn.place.name) (take l.head-index l.heads);
  counted : l.octets ≡ at_most_u64 (cost_of_reading (g.R.Rows.content l.fn.rows) (canonical l.fn.place.name) (take l.head-index l.heads));
  cost : g.R.Rows.reads l.rows ≤ g.R.Rows.reads l.fn.rows + cost_of_reading (g.R.Rows.content l.fn.rows) (canonical l.fn.place.name) (take l.head-index l.heads);
  within : ReadsWithin (g.R.Rows.content l.fn.rows) shown_cost (g.R.Rows.reads l.fn.rows) (g.R.Rows.reads l.rows);
}
