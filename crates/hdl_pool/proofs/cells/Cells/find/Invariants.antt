use Rattle.std.proofs.Common.{◌≡◌, ℕ, ◌<◌, false}
use Rattle.hdl_pool.specs.Cells.{cell_at, holds}
use Rattle.hdl_pool.proofs.cells.Cells.find.Given as goal

abbrev pub invariant-loop-place : goal.invariant-loop-place
invariant-loop-place l = (k : ℕ) → k < l.place → holds l.key (cell_at l.self l.lane k) ≡ false
