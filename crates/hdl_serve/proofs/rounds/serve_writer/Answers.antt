use Rattle.std.proofs.Common.{rules}
use Rattle.hdl_serve.proofs.Lanes.{serving_on}
use Rattle.hdl_serve.proofs.rounds.serve_writer.Goals as goal

pub returns : goal.returns
returns g c = λ w before changes h.
    serving_on w c.args.machine.now.world c.serve_next.new.machine.world before changes c.args.lanes.now c.args.ended.now c.in-Some-position.at _ c.serve_next.new.ended _ c.serve_next.new.ends
    (search rules) (search rules) c.serve_next.ensures.served h

pub returns-in_default : goal.returns-in_default
returns-in_default g c = λ w before changes h. h

pub returns-in_default-position : goal.returns-in_default-position
returns-in_default-position g c = λ w before changes h. h
