use Rattle.hdl_serve.proofs.Steps.{serves_none, serves_then, passes_nothing}
use Rattle.hdl_serve.proofs.rounds.serve_lane.Goals as goal

pub loop-served-init : goal.loop-served-init
loop-served-init g c = serves_none c.args.ended.now c.args.ended.now c.args.machine.now.world c.args.ends.now c.args.ends.now (passes_nothing c.args.ended.now c.args.ends.now)

pub loop-served-preserved : goal.loop-served-preserved
loop-served-preserved g c = serves_then c.runs_joined.ensures _ _ _ _ _ _ _ _ _ c.loop-served.invariant c.serve_next.ensures.served

pub returns-then-not-serve_next-clause-served : goal.returns-then-not-serve_next-clause-served
returns-then-not-serve_next-clause-served g c = serves_then c.runs_joined.ensures _ _ _ _ _ _ _ _ _ c.loop-served.invariant c.serve_next.ensures.served

pub returns-then-is_over-clause-served : goal.returns-then-is_over-clause-served
returns-then-is_over-clause-served g c = serves_then c.runs_joined.ensures _ _ _ _ _ _ _ _ _ c.loop-served.invariant c.serve_next.ensures.served
