use Rattle.std.proofs.Common.{◌++◌, refl}
use Rattle.std.specs.List.{flat_map}
use Rattle.hdl_forms.specs.Lists.{row_at}
use Rattle.hdl_forms.proofs.Rows.{one_more}
use Rattle.hdl_forms.proofs.found.with_rows.Goals as goal

pub loop-place-preserved : goal.loop-place-preserved
loop-place-preserved c =
    one_more (row_at c.args.handles.now) (c.args.page ++ flat_map (row_at c.args.handles.now) c.args.places.now) c.loop-place.rows c.in_ok-rows.rows c.args.places.now c.loop-place.place-index
    0 _ c.loop-place-test.true refl c.in_ok-rows.ensures c.loop-place.invariant
