use Rattle.std.proofs.Common.{◌≡◌, ◌<◌, ℕ, length, Some, slice_index}
use Rattle.slab.specs.Slab.{get}
use Rattle.hdl_slots.specs.declared.cells.Cell.{Cell}
use Rattle.hdl_slots.specs.Cells.{empty_cell}
use Rattle.hdl_slots.proofs.cells.Cells.lane_keys.Given as goal

abbrev pub invariant-loop-place : goal.invariant-loop-place
invariant-loop-place l =
    (length l.keys ≡ 8)
    × ((place : ℕ) → place < l.place → get l.slab (slice_index l.keys place) ≡ Some (empty_cell l.lane place))
    × ((key : ℕ) (cell : Cell) → get l.fn.slab key ≡ Some cell → get l.slab key ≡ Some cell)
