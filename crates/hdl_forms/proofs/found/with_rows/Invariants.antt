use Rattle.std.proofs.Common.{◌≡◌, ◌++◌, drop}
use Rattle.std.specs.List.{flat_map}
use Rattle.hdl_forms.specs.Lists.{row_at}
use Rattle.hdl_forms.proofs.found.with_rows.Given as goal

abbrev pub invariant-loop-place : goal.invariant-loop-place
invariant-loop-place l = l.rows ++ flat_map (row_at l.handles) (drop l.place-index l.places) ≡ l.fn.page ++ flat_map (row_at l.handles) l.places
