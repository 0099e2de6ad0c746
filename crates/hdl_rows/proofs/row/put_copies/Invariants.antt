use Rattle.std.proofs.Common.{◌≡◌, ◌≤◌, ◌+◌, length, vec_len, vec_capacity}
use Rattle.hdl_rows.specs.RowStore.{by_index, put_all}
use Rattle.hdl_rows.proofs.row.put_copies.Given as goal

abbrev pub invariant-loop-value : goal.invariant-loop-value
invariant-loop-value l = (by_index l.values.items ≡ put_all (by_index l.initial.values.items) l.yielded) × (vec_len l.values + length l.others ≤ vec_capacity l.values + length l.yielded)
