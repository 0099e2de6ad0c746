use Rattle.std.proofs.Common.{sym, ◌∙◌, subst}
use Rattle.hdl_name.specs.Name.{canonical}
use Rattle.hdl_reach.specs.Cost.{heads_cost}
use Rattle.hdl_rows.specs.Table.{Table}
use Rattle.hdl_ops.specs.Tables.{apply, CanApply}
use Rattle.hdl_ops.specs.declared.change.Change.{Change}
use Rattle.hdl_core.proofs.Costs.{then_nothing}
use Rattle.hdl_core.proofs.Fits.{decided, found_read}
use Rattle.hdl_core.proofs.letting.apply_remote.Goals as goal

pub returns-in_err-found-clause-cost : goal.returns-in_err-found-clause-cost
returns-in_err-found-clause-cost g c = found_read (g.R.Rows.content c.args.rows.now) (canonical c.name_of.result.now) c.heads.result _ _ c.heads.ensures.reads c.heads.ensures.found

pub returns-then-not-is_fit-clause-unfit : goal.returns-then-not-is_fit-clause-unfit
returns-then-not-is_fit-clause-unfit g c = λ unfit. (
  (decided (g.R.Rows.content c.args.rows.now) c.args.change.now c.name_of.result.now c.in_ok-found.found c.is_fit.result c.name_of.ensures c.in_ok-found.ensures.there c.in_ok-found.ensures.found c.in_ok-found.ensures.by_index c.is_fit.ensures).1 c.if-not-is_fit.true,
  c.heads.ensures.unchanged,
)

pub returns-then-not-is_fit-clause-cost : goal.returns-then-not-is_fit-clause-cost
returns-then-not-is_fit-clause-cost g c = found_read (g.R.Rows.content c.args.rows.now) (canonical c.name_of.result.now) c.heads.result _ _ c.heads.ensures.reads c.heads.ensures.found

pub returns-in_err-change-clause-cost : goal.returns-in_err-change-clause-cost
returns-in_err-change-clause-cost g c = found_read (g.R.Rows.content c.args.rows.now) (canonical c.name_of.result.now) c.heads.result _ _ c.heads.ensures.reads c.heads.ensures.found

pub apply-requires : goal.apply-requires
apply-requires g c =
    let fits = (decided (g.R.Rows.content c.args.rows.now) c.args.change.now c.name_of.result.now c.in_ok-found.found c.is_fit.result c.name_of.ensures c.in_ok-found.ensures.there c.in_ok-found.ensures.found c.in_ok-found.ensures.by_index c.is_fit.ensures).0 c.if-not-is_fit.false in
    record { can_apply = subst (λ (change : Change). CanApply (g.R.Rows.content c.heads.new.self) change) (sym c.in_ok-change.ensures) (subst (λ (t : Table). CanApply t c.args.change.now) (sym c.heads.ensures.unchanged) fits) }

pub returns-clause-done : goal.returns-clause-done
returns-clause-done g c = λ is. (
  (decided (g.R.Rows.content c.args.rows.now) c.args.change.now c.name_of.result.now c.in_ok-found.found c.is_fit.result c.name_of.ensures c.in_ok-found.ensures.there c.in_ok-found.ensures.found c.in_ok-found.ensures.by_index c.is_fit.ensures).0 c.if-not-is_fit.false,
  c.in_ok-apply.ensures.done ∙ (λ i. apply (c.heads.ensures.unchanged i) c.args.moment (c.in_ok-change.ensures i)),
)

pub returns-clause-cost : goal.returns-clause-cost
returns-clause-cost g c =
    let t = g.R.Rows.content c.args.rows.now in
    then_nothing t heads_cost _ _ _ (found_read t (canonical c.name_of.result.now) c.heads.result _ _ c.heads.ensures.reads c.heads.ensures.found) c.apply.ensures.reads
