use Rattle.hdl_serve.proofs.Steps.{serves_one}
use Rattle.hdl_serve.proofs.rounds.serve_taken.Goals as goal

pub returns : goal.returns
returns g c =
    serves_one c.args.ended.now c.take_event.new.ended c.args.machine.now.world c.step-outcome.new.self.world c.in-Some.what c.step-outcome.result.outcome c.args.ends.now c.take_event.new.ends c.give_back.new.ends
    c.in-Some.ensures.0 c.give_back.ensures c.step-outcome.ensures.step
