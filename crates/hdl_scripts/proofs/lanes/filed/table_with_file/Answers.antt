use Rattle.hdl_scripts.proofs.lanes.filed.table_with_file.Goals as goal

pub rows_from_file-requires-clause-distinct : goal.rows_from_file-requires-clause-distinct
rows_from_file-requires-clause-distinct g c = rw c.opening.ensures.rows c.opening.ensures.kept.places

pub over-requires-clause-kept : goal.over-requires-clause-kept
over-requires-clause-kept g c = c.over-file.ensures c.in-Ok.rows.table c.in-Ok.ensures.kept
