use Rattle.std.proofs.Common.{arith}
use Rattle.hdl_pool.proofs.StoreLemmas.{AreEmpty-cells}
use Rattle.hdl_pool.proofs.cells.Cells.new.Goals as goal

pub returns : goal.returns
returns c = AreEmpty-cells c.loop.slab c.loop.keys.items c.loop.counter (omega arith) c.loop.invariant
