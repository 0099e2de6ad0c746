use Rattle.std.proofs.Common.{◌≡◌, ◌+◌, min, take}
use Rattle.hdl_name.specs.Name.{canonical}
use Rattle.hdl_rows.specs.Table.{most}
use Rattle.hdl_recordedrows.specs.Before.{standing}
use Rattle.hdl_recordedrows.proofs.before.values_at.Given as goal

abbrev pub invariant-loop-index : goal.invariant-loop-index
invariant-loop-index g l = record {
  unchanged : g.R.Rows.content l.rows ≡ g.R.Rows.content l.initial.rows;
  named : l.place.name ≡ l.initial.place.name;
  found : l.all.items ≡ standing (g.R.Rows.content l.initial.rows) (canonical l.initial.place.name) (take l.index-index l.indexes);
  count : min (g.R.Rows.refused l.rows + l.refusals) most ≡ min (g.R.Rows.refused l.initial.rows + l.initial.refusals) most;
}
