use Rattle.hdl_value.specs.Refs.{place_of}
use Rattle.hdl_ops.proofs.Costs.{at_read, key_read, mask_read}
use Rattle.hdl_ops.proofs.keys.code_for_key.Goals as goal

pub returns-in_err-mask-clause-cost : goal.returns-in_err-mask-clause-cost
returns-in_err-mask-clause-cost g c = mask_read (g.R.Rows.content c.args.rows.now) _ _ c.mask_of.ensures.cost

pub returns-in_default-2-clause-cost : goal.returns-in_default-2-clause-cost
returns-in_default-2-clause-cost g c = mask_read (g.R.Rows.content c.args.rows.now) _ _ c.mask_of.ensures.cost

pub returns-in_err-value-clause-cost : goal.returns-in_err-value-clause-cost
returns-in_err-value-clause-cost g c =
    let u = g.R.Rows.content c.mask_of.new.rows in
    key_read (g.R.Rows.content c.args.rows.now) u _ _ _ c.mask_of.ensures.unchanged c.mask_of.ensures.cost (at_read u (place_of c.in-Some.key) c.at.result _ _ c.at.ensures.reads c.at.ensures.found)

pub returns-clause-cost : goal.returns-clause-cost
returns-clause-cost g c =
    let u = g.R.Rows.content c.mask_of.new.rows in
    key_read (g.R.Rows.content c.args.rows.now) u _ _ _ c.mask_of.ensures.unchanged c.mask_of.ensures.cost (at_read u (place_of c.in-Some.key) c.at.result _ _ c.at.ensures.reads c.at.ensures.found)
