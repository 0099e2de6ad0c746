use Rattle.std.proofs.Common.{◌≡◌, ◌&&◌, filter, true, false, sym, ap, ◌∙◌}
use Rattle.hdl_name.specs.Name.{prefix}
use Rattle.hdl_rows.specs.Reads.{names_octets}
use Rattle.hdl_rows.specs.Table.{names_of}
use Rattle.hdl_rows.proofs.Changes.{if_ok_then}
use Rattle.hdl_ops.specs.Decisions.{may_read}
use Rattle.hdl_ops.specs.Requests.{resolves, is_list}
use Rattle.hdl_ops.specs.TableViews.{asks}
use Rattle.hdl_ops.specs.Views.{level_of, table_view_of}
use Rattle.hdl_ops.proofs.Costs.{names_read, lists_granted}
use Rattle.hdl_ops.proofs.Shown.{see_resolution, see_list, see_write}
use Rattle.hdl_ops.proofs.seeing.see.Goals as goal

pub returns-then-resolves-clause-decision : goal.returns-then-resolves-clause-decision
returns-then-resolves-clause-decision g c = λ a.
    let r = c.args.request.now in
    let e : resolves r.operation ≡ true = sym (ap resolves c.body.ensures) ∙ sym c.resolves.ensures ∙ c.if-resolves.true in
    see_resolution a (g.R.Rows.content c.args.rows.now) r (level_of c.args.level.now) (table_view_of c.args.seen) _ c.args.place.now.name c.deref.result.now c.requires.seen c.requires.named e c.requires.by_index
    (c.deref.ensures.value ∙ c.readable_values-heads.ensures ∙ ap (λ o. filter (λ v. asks o v && may_read (level_of c.args.level.now) v) (table_view_of c.args.seen).values) c.body-then-resolves.ensures)
    c.in_ok-values.ensures.enough

pub returns-then-is_list-clause-decision : goal.returns-then-is_list-clause-decision
returns-then-is_list-clause-decision g c = λ a.
    let r = c.args.request.now in
    let t = g.R.Rows.content c.args.rows.now in
    let e : is_list r.operation ≡ true = sym (ap is_list c.body-2.ensures) ∙ sym c.is_list.ensures ∙ c.if-is_list.true in
    see_list a t r (level_of c.args.level.now) _ e (c.in_ok-seen.ensures.found ∙ ap (names_of t) (c.prefix.ensures ∙ ap prefix c.requires.named))

pub returns-then-is_list-clause-cost : goal.returns-then-is_list-clause-cost
returns-then-is_list-clause-cost g c =
    let r = c.args.request.now in
    let e : is_list r.operation ≡ true = sym (ap is_list c.body-2.ensures) ∙ sym c.is_list.ensures ∙ c.if-is_list.true in
    lists_granted (g.R.Rows.content c.args.rows.now) r.operation _ _ e
    (names_read (g.R.Rows.content c.args.rows.now) c.prefix.result.now (λ all. names_octets all.items) c.names.result _ _ c.names.ensures.reads (if_ok_then c.names.result _ _ (λ all found. ap names_octets found) c.names.ensures.found))

pub returns-clause-decision : goal.returns-clause-decision
returns-clause-decision g c = λ a.
    let r = c.args.request.now in
    let e : resolves r.operation ≡ false = sym (ap resolves c.body.ensures) ∙ sym c.resolves.ensures ∙ c.if-resolves.false in
    let f : is_list r.operation ≡ false = sym (ap is_list c.body-2.ensures) ∙ sym c.is_list.ensures ∙ c.if-is_list.false in
    see_write a (g.R.Rows.content c.args.rows.now) r (level_of c.args.level.now) _ e f
