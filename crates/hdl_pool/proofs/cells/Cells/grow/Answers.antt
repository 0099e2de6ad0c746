use Rattle.std.proofs.Common.{◌≡◌, sym, subst, IfOk}
use Rattle.hdl_pool.specs.Taking.{Fate, fate_of}
use Rattle.hdl_pool.specs.Arrival.{piece_in}
use Rattle.hdl_pool.specs.Cells.{cells_at}
use Rattle.hdl_pool.proofs.TakenLemmas.{found_some, found_fate, found_lanes, refilled_same, refilled_fours, on_ok, on_err}
use Rattle.hdl_pool.proofs.cells.Cells.grow.Goals as goal

pub returns-in_default : goal.returns-in_default
returns-in_default c = absurd (found_some c.args.piece.key (cells_at c.args.self.now c.args.lane) c.args.place c.requires.found (sym c.in_default.ensures.was))

pub returns-clause-fate : goal.returns-clause-fate
returns-clause-fate c =
    subst (λ (f : Fate). IfOk c.take-taken.result (λ t. fate_of t ≡ f)) (found_fate c.args.self.now c.args.lane c.args.place (piece_in c.args.piece) c.in-Some.partial c.requires.lane c.requires.fours c.requires.found c.in-Some.ensures.was)
    c.take-taken.ensures.fate

pub returns-clause-lanes : goal.returns-clause-lanes
returns-clause-lanes c =
    on_ok c.take-taken.result
    (λ is. found_lanes c.args.self.now c.replace.new.self c.write.new.self c.args.lane c.args.place (piece_in c.args.piece) c.in-Some.partial c.take-taken.new.self c.requires.lane c.requires.fours c.requires.found c.in-Some.ensures.was
    c.replace.ensures.cells c.write.ensures is)
    c.take-taken.ensures.grown

pub returns-clause-unchanged : goal.returns-clause-unchanged
returns-clause-unchanged c =
    on_err c.take-taken.result
    (λ is. refilled_same c.args.self.now c.replace.new.self c.write.new.self c.args.lane c.args.place c.in-Some.partial c.take-taken.new.self c.requires.lane c.requires.fours c.replace.ensures.cells c.write.ensures c.in-Some.ensures.was is)
    c.take-taken.ensures.unchanged

pub returns-clause-fours : goal.returns-clause-fours
returns-clause-fours c = refilled_fours c.args.self.now c.replace.new.self c.write.new.self c.args.lane c.args.place _ c.requires.lane c.requires.fours c.replace.ensures.cells c.write.ensures
