use Rattle.std.proofs.Common.{◌≡◌, ◌∙◌, ℕ, refl, ap, subst}
use Rattle.hdl_reach.specs.Cost.{ReadsWithin, heads_cost}
use Rattle.hdl_ops.specs.Tables.{apply, CanApply}
use Rattle.hdl_laws.specs.Worlds.{World, with_table}
use Rattle.hdl_core.specs.Machine.{Machine}
use Rattle.hdl_core.specs.Worlds.{world_of}
use Rattle.hdl_core.proofs.Costs as costs
use Rattle.hdl_core.proofs.Fits.{in_world, unfit_in_world}
use Rattle.hdl_core.proofs.machine.Machine.apply_remote.Goals as goal

pub returns-then-is_done : goal.returns-then-is_done
returns-then-is_done g c =
    let r = c.self.inside.tenants in
    let b = c.self.inside.takes_changes in
    let lanes = c.self.inside.lanes in
    let t = g.R.Rows.content c.set_may_write.new.self in
    let t' = g.R.Rows.content c.apply_remote.new.rows in
    let same = ap (world_of r b lanes) c.set_may_write.ensures.unchanged ∙ ap (λ (m : Machine _). m.world) c.self.view_is in
    let before = c.set_may_write.ensures.reads ∙ ap (λ (m : Machine _). g.R.Rows.reads m.rows) c.self.view_is in
    let new = g.R.Rows.reads c.apply_remote.new.rows in
    let read = subst (λ (n : ℕ). ReadsWithin c.args.self.now.world.table heads_cost n new) before
    (subst (λ (w : World). ReadsWithin w.table heads_cost (g.R.Rows.reads c.set_may_write.new.self) new) same (costs.in_world r b lanes t heads_cost _ _ c.apply_remote.ensures.cost)) in
    record {
      done = λ is. subst (λ (w : World). CanApply w.table c.args.change.now × (world_of r b lanes t' ≡ with_table w (apply w.table c.args.moment c.args.change.now))) same (in_world r b lanes t c.args.change.now t' c.args.moment (c.in-Ok.ensures.done c.if-is_done.true));
      unfit = λ is. absurd cc;
      undone = λ other. absurd (other refl);
      refused = λ is. absurd cc;
      owed = λ is. absurd cc;
      cost = read;
    }

pub returns : goal.returns
returns g c =
    let r = c.self.inside.tenants in
    let b = c.self.inside.takes_changes in
    let lanes = c.self.inside.lanes in
    let t = g.R.Rows.content c.set_may_write.new.self in
    let t' = g.R.Rows.content c.apply_remote.new.rows in
    let same = ap (world_of r b lanes) c.set_may_write.ensures.unchanged ∙ ap (λ (m : Machine _). m.world) c.self.view_is in
    let before = c.set_may_write.ensures.reads ∙ ap (λ (m : Machine _). g.R.Rows.reads m.rows) c.self.view_is in
    let new = g.R.Rows.reads c.apply_remote.new.rows in
    let read = subst (λ (n : ℕ). ReadsWithin c.args.self.now.world.table heads_cost n new) before
    (subst (λ (w : World). ReadsWithin w.table heads_cost (g.R.Rows.reads c.set_may_write.new.self) new) same (costs.in_world r b lanes t heads_cost _ _ c.apply_remote.ensures.cost)) in
    let unfit = c.in-Ok.ensures.unfit c.if-is_done.false in
    record {
      done = λ is. absurd cc;
      unfit = λ is. subst (λ (w : World). ¬ CanApply w.table c.args.change.now) same (unfit_in_world r b lanes t c.args.change.now unfit.0);
      undone = λ other. ap (world_of r b lanes) unfit.1 ∙ same;
      refused = λ is. absurd cc;
      owed = λ is. absurd cc;
      cost = read;
    }

pub returns-in_default-clause-cost : goal.returns-in_default-clause-cost
returns-in_default-clause-cost g c =
    let r = c.self.inside.tenants in
    let b = c.self.inside.takes_changes in
    let lanes = c.self.inside.lanes in
    let t = g.R.Rows.content c.set_may_write.new.self in
    let same = ap (world_of r b lanes) c.set_may_write.ensures.unchanged ∙ ap (λ (m : Machine _). m.world) c.self.view_is in
    let before = c.set_may_write.ensures.reads ∙ ap (λ (m : Machine _). g.R.Rows.reads m.rows) c.self.view_is in
    let new = g.R.Rows.reads c.apply_remote.new.rows in
    let read = subst (λ (n : ℕ). ReadsWithin c.args.self.now.world.table heads_cost n new) before
    (subst (λ (w : World). ReadsWithin w.table heads_cost (g.R.Rows.reads c.set_may_write.new.self) new) same (costs.in_world r b lanes t heads_cost _ _ c.apply_remote.ensures.cost)) in
    read
