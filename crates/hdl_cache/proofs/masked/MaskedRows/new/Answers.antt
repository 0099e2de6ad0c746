use Rattle.hdl_cache.proofs.masked.MaskedRows.new.Goals as goal

pub invariant_of-result : goal.invariant_of-result
invariant_of-result g c = (c.in_ok-masks.ensures (g.R.Rows.content c.args.rows), c.new-2.ensures (g.R.Rows.content c.args.rows))
