use Rattle.std.proofs.Common.{◌≡◌}
use Rattle.hdl_rows.specs.RowStore.{by_index, put_all}
use Rattle.hdl_cachedrows.proofs.cached_handle.put_values.Given as goal

abbrev pub invariant-loop-value : goal.invariant-loop-value
invariant-loop-value l = by_index l.values.items ≡ put_all (by_index l.initial.values.items) l.yielded
