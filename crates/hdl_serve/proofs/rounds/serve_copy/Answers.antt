use Rattle.std.proofs.Common.{false, refl}
use Rattle.hdl_workers.specs.declared.ends.LaneEnds.{LaneEnds}
use Rattle.hdl_serve.proofs.Steps.{serves_kept, serves_one, took_first, puts_nothing, puts_one}
use Rattle.hdl_serve.proofs.rounds.serve_copy.Goals as goal

pub returns-then-stays-clause-served : goal.returns-then-stays-clause-served
returns-then-stays-clause-served g c = serves_kept false _ _ _ _ c.args.ends.now c.step-outcome.ensures.step (c.stays.ensures.busy c.if-stays.true)

pub returns-then-stays-clause-owed : goal.returns-then-stays-clause-owed
returns-then-stays-clause-owed g c = λ sure owes. puts_nothing c.args.ends.now

pub returns-clause-served : goal.returns-clause-served
returns-clause-served g c =
    let taken : LaneEnds = record { lane = c.args.ends.now.lane; items = c.take_front.new.self; outcomes = c.args.ends.now.outcomes } in
    serves_one false false _ _ c.args.copy c.step-outcome.result.outcome c.args.ends.now taken c.give_back.new.ends
    (took_first c.args.ends.now taken c.args.copy c.take_front.result c.requires.front c.take_front.ensures.front refl c.take_front.ensures.lane refl c.take_front.ensures.taken) c.give_back.ensures c.step-outcome.ensures.step
