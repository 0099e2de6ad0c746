use Rattle.std.proofs.Common.{◌≡◌, map, filter}
use Rattle.std.specs.Map.Iter.{deref_pair}
use Rattle.hdl_name.specs.Name.{authority}
use Rattle.hdl_value.specs.Place.{same_handle}
use Rattle.hdl_rows.proofs.row_store.RowStore.names.Given as goal

abbrev pub invariant-loop-name : goal.invariant-loop-name
invariant-loop-name l = l.all.items ≡ filter (λ h. same_handle (authority h) l.prefix) (map (λ e. e.0.items) (map deref_pair l.yielded))
