use Rattle.std.proofs.Common.{rules, arith}
use Rattle.std.proofs.lemmas.Grind.{common_steps}
use Rattle.hdl_serve.proofs.rounds.serve_shares.Goals as goal

pub loop-i-init : goal.loop-i-init
loop-i-init g c = record { few = search rules; serving = λ w before changes h. h }

pub loop-i-preserved : goal.loop-i-preserved
loop-i-preserved g c = record {
  few = grind (arith, common_steps);
  serving = λ w before changes h. c.serve_share-served.ensures.serving w before changes (c.loop-i.invariant.serving w before changes h);
}

pub returns-clause-serving : goal.returns-clause-serving
returns-clause-serving g c = λ w before changes h. c.loop-i.invariant.serving w before changes h

pub returns-in_default-clause-serving : goal.returns-in_default-clause-serving
returns-in_default-clause-serving g c = λ w before changes h. c.loop-i.invariant.serving w before changes h
