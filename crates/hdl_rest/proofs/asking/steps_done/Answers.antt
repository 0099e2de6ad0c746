use Rattle.std.proofs.Common.{◌++◌, map, refl, rules, subst, sym}
use Rattle.hdl_msg.specs.RequestBody.{requested_operation}
use Rattle.hdl_rest.specs.Sending.{Sends}
use Rattle.hdl_rest.proofs.Sendings.{asked_nothing, asked_then, step_more, step_undone}
use Rattle.hdl_rest.proofs.asking.steps_done.Goals as goal

pub returns-then-not-are_short-clause-asked : goal.returns-then-not-are_short-clause-asked
returns-then-not-are_short-clause-asked g c = asked_nothing refl

pub loop-step-init : goal.loop-step-init
loop-step-init g c = record {
  counted = refl;
  asked = asked_nothing refl;
}

pub loop-step-preserved : goal.loop-step-preserved
loop-step-preserved g c = record {
  counted = search rules;
  asked = asked_then c.loop-step.invariant.asked c.in-Ok.ensures.asked (λ xs ys front makes.
      step_more c.args.order.now.key c.args.steps.now c.loop-step.step-index c.step-item.result xs ys _ (search rules) (search rules) front makes);
}

pub returns-in-Err-clause-asked : goal.returns-in-Err-clause-asked
returns-in-Err-clause-asked g c = asked_then c.loop-step.invariant.asked c.in-Err.ensures.asked (λ xs ys front makes.
    subst (λ n. Sends c.args.order.now.key (map requested_operation c.args.steps.now) (xs ++ ys) n) (sym c.loop-step.invariant.counted)
    (step_undone c.args.order.now.key c.args.steps.now c.loop-step.step-index c.step-item.result xs ys c.in-Err.stop (search rules) (search rules) front makes c.in-Err.ensures.failure))
