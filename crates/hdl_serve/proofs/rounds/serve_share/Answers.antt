use Rattle.std.proofs.Common.{rules, arith}
use Rattle.std.proofs.lemmas.Grind.{common_steps}
use Rattle.hdl_serve.proofs.Lanes.{serving_on}
use Rattle.hdl_serve.proofs.rounds.serve_share.Goals as goal

pub loop-init : goal.loop-init
loop-init g c = record { few = search rules; most = search rules; serving = λ w before changes h. h }

pub loop-preserved : goal.loop-preserved
loop-preserved g c = record {
  few = grind (arith, common_steps);
  most = search rules;
  serving = λ w before changes h.
      serving_on w c.loop.machine.world c.serve_lane-given.new.machine.world before changes c.loop.lanes c.loop.ended c.loop.share.next _ c.serve_lane-given.new.ended _ c.serve_lane-given.new.ends
      (search rules) (search rules) c.serve_lane-given.ensures.served (c.loop.invariant.serving w before changes h);
}

pub returns-then-given-clause-serving : goal.returns-then-given-clause-serving
returns-then-given-clause-serving g c = λ w before changes h.
    serving_on w c.loop.machine.world c.serve_lane-given.new.machine.world before changes c.loop.lanes c.loop.ended c.loop.share.next _ c.serve_lane-given.new.ended _ c.serve_lane-given.new.ends
    (search rules) (search rules) c.serve_lane-given.ensures.served (c.loop.invariant.serving w before changes h)

pub returns-then-place-lanes-clause-serving : goal.returns-then-place-lanes-clause-serving
returns-then-place-lanes-clause-serving g c = λ w before changes h. c.loop.invariant.serving w before changes h

pub returns-clause-serving : goal.returns-clause-serving
returns-clause-serving g c = λ w before changes h. c.loop.invariant.serving w before changes h
