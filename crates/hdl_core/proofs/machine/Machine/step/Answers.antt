use Rattle.std.proofs.Common.{◌∙◌, ℕ, ap, subst}
use Rattle.hdl_reach.specs.Cost.{ReadsWithin}
use Rattle.hdl_ops.specs.Cost.{anyone_cost, proof_cost}
use Rattle.hdl_laws.specs.Cost.{IsStranger}
use Rattle.hdl_laws.specs.Worlds.{World, lane_of}
use Rattle.hdl_laws.specs.Runs.{HasStep}
use Rattle.hdl_core.specs.Machine.{Machine}
use Rattle.hdl_core.specs.Worlds.{world_of}
use Rattle.hdl_core.proofs.machine.Machine.step.Goals as goal

pub returns-clause-step : goal.returns-clause-step
returns-clause-step g c =
    let same = ap (world_of c.self.inside.tenants c.self.inside.takes_changes c.self.inside.lanes) c.set_may_write.ensures.unchanged ∙ ap (λ (m : Machine _). m.world) c.self.view_is in
    subst (λ w. HasStep w c.args.event c.handle_event-outcome.result c.handle_event-outcome.new.self.world) same c.handle_event-outcome.ensures.step

pub returns-clause-cost : goal.returns-clause-cost
returns-clause-cost g c =
    let same = ap (world_of c.self.inside.tenants c.self.inside.takes_changes c.self.inside.lanes) c.set_may_write.ensures.unchanged ∙ ap (λ (m : Machine _). m.world) c.self.view_is in
    let read = c.set_may_write.ensures.reads ∙ ap (λ (m : Machine _). g.R.Rows.reads m.rows) c.self.view_is in
    let new = g.R.Rows.reads c.handle_event-outcome.new.self.rows in
    subst (λ (n : ℕ). ReadsWithin c.args.self.now.world.table proof_cost n new) read
    (subst (λ (w : World). ReadsWithin w.table proof_cost (g.R.Rows.reads c.set_may_write.new.self) new) same c.handle_event-outcome.ensures.cost)

pub returns-clause-stranger : goal.returns-clause-stranger
returns-clause-stranger g c =
    let same = ap (world_of c.self.inside.tenants c.self.inside.takes_changes c.self.inside.lanes) c.set_may_write.ensures.unchanged ∙ ap (λ (m : Machine _). m.world) c.self.view_is in
    let read = c.set_may_write.ensures.reads ∙ ap (λ (m : Machine _). g.R.Rows.reads m.rows) c.self.view_is in
    let new = g.R.Rows.reads c.handle_event-outcome.new.self.rows in
    subst (λ (n : ℕ). IsStranger (lane_of c.args.self.now.world c.args.event.lane) c.args.event.what → ReadsWithin c.args.self.now.world.table anyone_cost n new) read
    (subst (λ (w : World). IsStranger (lane_of w c.args.event.lane) c.args.event.what → ReadsWithin w.table anyone_cost (g.R.Rows.reads c.set_may_write.new.self) new) same c.handle_event-outcome.ensures.stranger)
