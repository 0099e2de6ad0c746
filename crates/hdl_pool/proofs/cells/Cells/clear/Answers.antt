use Rattle.std.proofs.Common.{None, refl, arith}
use Rattle.hdl_pool.proofs.CellLemmas.{IsWrittenTo-more, none_of, none_all}
use Rattle.hdl_pool.proofs.cells.Cells.clear.Goals as goal

pub loop-place-preserved : goal.loop-place-preserved
loop-place-preserved c = IsWrittenTo-more none_of c.args.self.now c.args.lane c.loop-place.place c.loop-place.self c.write.new.self None c.requires.lane (omega arith) c.requires.fours c.loop-place.invariant c.write.ensures refl

pub returns-clause-lanes : goal.returns-clause-lanes
returns-clause-lanes c = (none_all c.args.self.now c.args.lane c.loop-place.place c.loop-place.self c.requires.lane (omega arith) c.requires.fours c.loop-place.invariant).0

pub returns-clause-fours : goal.returns-clause-fours
returns-clause-fours c = (none_all c.args.self.now c.args.lane c.loop-place.place c.loop-place.self c.requires.lane (omega arith) c.requires.fours c.loop-place.invariant).1
