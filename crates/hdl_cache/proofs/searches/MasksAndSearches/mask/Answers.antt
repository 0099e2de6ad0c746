use Rattle.hdl_cache.proofs.searches.MasksAndSearches.mask.Goals as goal

pub returns-in-Ok-Some-clause-mask : goal.returns-in-Ok-Some-clause-mask
returns-in-Ok-Some-clause-mask g c = rw c.in-Ok-Some.field-0-is at (c.in-Ok-Some.ensures.of_table (g.R.Rows.content c.args.rows.now) c.requires.of_table.0)
