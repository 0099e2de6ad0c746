use Rattle.hdl_serve.specs.Rounds.{Serves}
use Rattle.hdl_serve.proofs.rounds.serve_lane.Given as goal

abbrev pub invariant-loop-served : goal.invariant-loop-served
invariant-loop-served g l = Serves l.initial.ended l.ended l.initial.machine.world l.machine.world l.initial.ends l.ends
