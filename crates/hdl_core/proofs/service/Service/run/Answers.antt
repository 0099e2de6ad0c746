use Rattle.std.proofs.Common.{arith, ◌∙◌, ◌≡◌, sym, ap, subst, ◌++◌, ◌∷◌, [], map-id}
use Rattle.std.specs.Prelude.{All, if◌then◌else◌}
use Rattle.std.proofs.lemmas.List.Elements.{All-push}
use Rattle.std.proofs.lemmas.Iterator.Adapters.{YieldsList-from_vec}
use Rattle.std.proofs.lemmas.Iterator.Consumers.{YieldsList-end}
use Rattle.hdl_laws.specs.Runs.{HasRun}
use Rattle.hdl_laws.specs.Cost.{HasRunReads}
use Rattle.hdl_laws.specs.Reveals.{IsReadable}
use Rattle.hdl_core.proofs.Costs.{run_reads}
use Rattle.hdl_core.proofs.Steps.{run_step}
use Rattle.hdl_core.proofs.service.Service.run.Goals as goal

pub loop-event-preserved : goal.loop-event-preserved
loop-event-preserved g c =
    let pushed : c.push.new.self.items ≡ c.loop-event.outcomes.items ++ (c.step-outcome.result ∷ []) = c.push.ensures.items ∙ ap (λ b. if b then c.loop-event.outcomes.items ++ (c.step-outcome.result ∷ []) else c.loop-event.outcomes.items) (sym c.is_ok-pushed.ensures.value ∙ c.if-prove.false) in
    record {
      run = subst (λ os. HasRun c.args.self.now.world (c.loop-event.yielded ++ (c.in-Some.event ∷ [])) os c.step-outcome.new.self.world) (sym pushed)
          (run_step c.runs_joined.ensures _ _ _ _ _ _ _ c.loop-event.invariant.run c.step-outcome.ensures.step);
      reads = subst (λ os. HasRunReads c.args.self.now.world (c.loop-event.yielded ++ (c.in-Some.event ∷ [])) os c.step-outcome.new.self.world (g.R.Rows.reads c.args.self.now.rows) (g.R.Rows.reads c.step-outcome.new.self.rows)) (sym pushed)
          (run_reads _ _ _ _ _ _ _ _ _ _ c.loop-event.invariant.reads c.step-outcome.ensures.step c.step-outcome.ensures.cost);
      read = subst (All IsReadable) (sym pushed) (All-push IsReadable c.loop-event.outcomes.items c.step-outcome.result c.loop-event.invariant.read c.step-outcome.ensures.read);
      room = omega (arith, c.loop-event.invariant.room, c.push.ensures.capacity);
    }

pub returns-clause-run : goal.returns-clause-run
returns-clause-run g c =
    let all : c.loop-event.yielded ≡ c.args.events.items = sym (map-id c.loop-event.yielded) ∙ (YieldsList-end (YieldsList-from_vec c.args.events.items c.into_iter-event-iterator.ensures.into_iter_gives.0 (c.into_iter-event-iterator.ensures.into_iter_gives.1 ∙ c.args.events.ok.0)) c.loop-event.yielded c.loop-event.event-iterator c.loop-event.yielded_by c.next.result c.next.new.self c.in-None.is c.next.ensures.steps).0 in
    subst (λ es. HasRun c.args.self.now.world es c.loop-event.outcomes.items c.loop-event.self.world) all c.loop-event.invariant.run

pub returns-clause-isolated : goal.returns-clause-isolated
returns-clause-isolated g c = λ ts run es os. c.restricted.ensures.alone c.args.self.now.world ts c.root_is_unhosted.ensures run

pub returns-clause-hidden : goal.returns-clause-hidden
returns-clause-hidden g c = λ ts run es os. c.twin_replies.ensures c.args.self.now.world ts run

pub returns-clause-cost : goal.returns-clause-cost
returns-clause-cost g c =
    let all : c.loop-event.yielded ≡ c.args.events.items = sym (map-id c.loop-event.yielded) ∙ (YieldsList-end (YieldsList-from_vec c.args.events.items c.into_iter-event-iterator.ensures.into_iter_gives.0 (c.into_iter-event-iterator.ensures.into_iter_gives.1 ∙ c.args.events.ok.0)) c.loop-event.yielded c.loop-event.event-iterator c.loop-event.yielded_by c.next.result c.next.new.self c.in-None.is c.next.ensures.steps).0 in
    subst (λ es. HasRunReads c.args.self.now.world es c.loop-event.outcomes.items c.loop-event.self.world (g.R.Rows.reads c.args.self.now.rows) (g.R.Rows.reads c.loop-event.self.rows)) all c.loop-event.invariant.reads
