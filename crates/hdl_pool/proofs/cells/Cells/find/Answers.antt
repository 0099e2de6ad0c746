use Rattle.std.proofs.Common.{◌∙◌, sym, None, arith}
use Rattle.hdl_pool.specs.Cells.{cells_at, holds}
use Rattle.hdl_pool.proofs.CellLemmas.{position_is, position_none}
use Rattle.hdl_pool.proofs.cells.Cells.find.Goals as goal

pub returns-then-holds-clause-first : goal.returns-then-holds-clause-first
returns-then-holds-clause-first c =
    let four = c.requires.fours.four c.args.lane c.requires.lane in
    position_is (holds c.args.key) (cells_at c.args.self.now c.args.lane) c.loop-place.place None (omega arith) c.loop-place.invariant (sym c.holds.ensures ∙ c.if-holds.true)

pub returns-clause-first : goal.returns-clause-first
returns-clause-first c =
    let four = c.requires.fours.four c.args.lane c.requires.lane in
    position_none (holds c.args.key) (cells_at c.args.self.now c.args.lane) None (λ k lt. c.loop-place.invariant k (omega arith))
