use Rattle.std.proofs.Common.{ap, arith, refl, subst}
use Rattle.hdl_events.specs.declared.Outcome.TheVariants.{Silent}
use Rattle.hdl_reach.specs.Cost.{ReadsWithin}
use Rattle.hdl_reach.proofs.Costs.{unread}
use Rattle.hdl_ops.specs.Cost.{anyone_cost, proof_cost}
use Rattle.hdl_laws.specs.Cost.{IsStranger}
use Rattle.hdl_laws.specs.Worlds.{lane_of}
use Rattle.hdl_laws.specs.Runs.{HasStep}
use Rattle.hdl_core.specs.Machine.{Machine}
use Rattle.hdl_core.specs.Worlds.{world_of}
use Rattle.hdl_core.specs.Serving.{HandlesEventAt}
use Rattle.hdl_core.proofs.Costs.{in_world, stranger_here}
use Rattle.hdl_core.proofs.Steps.{scene, steps_alone, steps_served}
use Rattle.hdl_core.proofs.machine.Machine.handle_event.Goals as goal

pub returns-then-event-len : goal.returns-then-event-len
returns-then-event-len g c =
    let world = ap (λ (m : Machine _). m.world) c.self.view_is in
    let done : HasStep c.args.self.now.world c.args.event Silent c.args.self.now.world = subst (λ w. HasStep w c.args.event Silent w) world (steps_alone c.self.inside.tenants c.self.inside.takes_changes c.self.inside.lanes _ c.args.event (omega (arith, c.len.ensures, c.if-event-len.true))) in
    record { step = done; told = c.reply_told.ensures _ _ _ _ done; read = tt; cost = unread _ proof_cost _ _ refl; stranger = λ _. unread _ anyone_cost _ _ refl }

pub returns : goal.returns
returns g c =
    let world = ap (λ (m : Machine _). m.world) c.self.view_is in
    let table = g.R.Rows.content c.self.inside.rows in
    let new = world_of c.self.inside.tenants c.self.inside.takes_changes c.handle_event.new.lanes (g.R.Rows.content c.handle_event.new.rows) in
    let served = subst (λ u. HandlesEventAt (scene c.self.inside.tenants c.self.inside.takes_changes table c.self.inside.lanes u) c.args.event.lane c.args.event.what c.handle_event.result c.handle_event.new.lanes (g.R.Rows.content c.handle_event.new.rows)) c.publisher.ensures c.handle_event.ensures.served in
    let done : HasStep c.args.self.now.world c.args.event c.handle_event.result new =
    subst (λ w. HasStep w c.args.event c.handle_event.result new) world
    (steps_served c.self.inside.tenants c.self.inside.takes_changes c.self.inside.lanes c.handle_event.new.lanes table (g.R.Rows.content c.handle_event.new.rows) c.args.event c.handle_event.result (omega (arith, c.len.ensures, c.if-event-len.false)) served) in
    record {
      step = done;
      told = c.reply_told.ensures _ _ _ _ done;
      read = c.handle_event.ensures.read;
      cost = subst (λ (m : Machine _). ReadsWithin m.world.table proof_cost (g.R.Rows.reads m.rows) (g.R.Rows.reads c.handle_event.new.rows)) c.self.view_is (in_world c.self.inside.tenants c.self.inside.takes_changes c.self.inside.lanes table proof_cost _ _ c.handle_event.ensures.cost);
      stranger = subst (λ (m : Machine _). IsStranger (lane_of m.world c.args.event.lane) c.args.event.what → ReadsWithin m.world.table anyone_cost (g.R.Rows.reads m.rows) (g.R.Rows.reads c.handle_event.new.rows)) c.self.view_is
          (λ s. in_world c.self.inside.tenants c.self.inside.takes_changes c.self.inside.lanes table anyone_cost _ _ (c.handle_event.ensures.stranger (stranger_here c.self.inside.tenants c.self.inside.takes_changes c.self.inside.lanes table c.args.event (omega (arith, c.len.ensures, c.if-event-len.false)) s)));
    }
