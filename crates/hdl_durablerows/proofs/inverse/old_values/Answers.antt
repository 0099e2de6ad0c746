use Rattle.hdl_name.specs.Name.{canonical}
use Rattle.hdl_durablerows.proofs.Undoing.{own_by_look}
use Rattle.hdl_durablerows.proofs.inverse.old_values.Goals as goal

pub returns-clause-own : goal.returns-clause-own
returns-clause-own g c = own_by_look (g.R.Rows.content c.args.rows.now) (canonical c.args.name.now) c.in_ok-all.all.items c.in_ok-all.ensures.by_index
