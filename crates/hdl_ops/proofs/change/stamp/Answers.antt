use Rattle.std.proofs.Common.{ap, ◌∙◌}
use Rattle.hdl_rows.specs.Table.{indexes}
use Rattle.hdl_ops.proofs.Stamps.{indexes_stamped}
use Rattle.hdl_ops.proofs.change.stamp.Goals as goal

pub returns-clause-indexes : goal.returns-clause-indexes
returns-clause-indexes c = rw c.with_moment.ensures (indexes_stamped _ _ ∙ ap indexes c.into_vec.ensures)
