use Rattle.std.proofs.Common.{subst, sym}
use Rattle.hdl_reach.specs.Cost.{ReadsWithin}
use Rattle.hdl_ops.specs.declared.decision.Level.{Level}
use Rattle.hdl_ops.specs.Cost.{decision_cost}
use Rattle.hdl_ops.specs.Decisions.{Anyone, Proven}
use Rattle.hdl_ops.specs.Views.{hosted_by, level_of, proof_of}
use Rattle.hdl_ops.proofs.Applied.{passed, can_apply}
use Rattle.hdl_ops.proofs.deciding.decide.Goals as goal

pub returns-in-Anyone-clause-can_apply : goal.returns-in-Anyone-clause-can_apply
returns-in-Anyone-clause-can_apply g c =
    can_apply (hosted_by c.args.request.owner.now) c.args.request.asked.algorithm _ c.args.request.asked.request.now Anyone c.decide_for_anyone.result (passed _ _ c.in_ok-decision.field-0 c.in-Passed.name c.in-Passed.is c.in_ok-decision.ensures) c.decide_for_anyone.ensures.decided c.decide_for_anyone.ensures.by_index

pub returns-in-Proven-clause-can_apply : goal.returns-in-Proven-clause-can_apply
returns-in-Proven-clause-can_apply g c =
    can_apply (hosted_by c.args.request.owner.now) c.args.request.asked.algorithm _ c.args.request.asked.request.now (Proven (proof_of c.in-Proven.proof)) c.decide_with_proof.result (passed _ _ c.in_ok-decision.field-0 c.in-Passed.name c.in-Passed.is c.in_ok-decision.ensures) c.decide_with_proof.ensures.decided c.decide_with_proof.ensures.by_index

pub returns-in-Anyone-clause-cost : goal.returns-in-Anyone-clause-cost
returns-in-Anyone-clause-cost g c =
    subst (λ (l : Level). ReadsWithin (g.R.Rows.content c.args.rows.now) (decision_cost (level_of l) c.args.request.asked.request.now.operation) (g.R.Rows.reads c.args.rows.now) (g.R.Rows.reads c.decide_for_anyone.new.rows)) (sym c.in-Anyone.is)
    c.decide_for_anyone.ensures.cost
