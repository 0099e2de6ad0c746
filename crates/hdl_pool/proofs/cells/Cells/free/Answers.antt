use Rattle.std.proofs.Common.{◌∙◌, arith}
use Rattle.hdl_pool.proofs.CellLemmas.{freed_more, freed_same, freed_all}
use Rattle.hdl_pool.proofs.cells.Cells.free.Goals as goal
use Rattle.hdl_pool.proofs.cells.Cells.free.Goals.{then-holds, else-holds}

pub loop-place-preserved : goal.loop-place-preserved
loop-place-preserved c =
    elim c.if-holds.branch [
      | then-holds w ↦ freed_more c.args.key c.args.self.now c.args.lane c.loop-place.place c.loop-place.self c.if-holds.self c.holds.result c.requires.lane (omega arith) c.requires.fours c.loop-place.invariant c.holds.ensures w.if-holds.true (w.self-is ∙ w.write.ensures)
      | else-holds w ↦ rw w.self-is (freed_same c.args.key c.args.self.now c.args.lane c.loop-place.place c.loop-place.self c.holds.result c.requires.lane (omega arith) c.requires.fours c.loop-place.invariant c.holds.ensures w.if-holds.false)
    ]

pub returns-clause-lanes : goal.returns-clause-lanes
returns-clause-lanes c = (freed_all c.args.key c.args.self.now c.args.lane c.loop-place.place c.loop-place.self c.requires.lane (omega arith) c.requires.fours c.loop-place.invariant).0

pub returns-clause-fours : goal.returns-clause-fours
returns-clause-fours c = (freed_all c.args.key c.args.self.now c.args.lane c.loop-place.place c.loop-place.self c.requires.lane (omega arith) c.requires.fours c.loop-place.invariant).1
