use Rattle.std.proofs.Common.{◌∙◌, sym, ap, map, subst}
use Rattle.hdl_tenants.specs.Register.{place, AreDistinct}
use Rattle.hdl_core.specs.Opening.{opening_table, row_at}
use Rattle.hdl_core.proofs.Ordered.{distinct_moved, opening_moved}
use Rattle.hdl_core.proofs.opening.load.Goals as goal

pub put_rows-requires-clause-distinct : goal.put_rows-requires-clause-distinct
put_rows-requires-clause-distinct g c =
    subst (λ rows. AreDistinct (map place (map row_at rows))) (sym c.deref.ensures.value)
    (distinct_moved c.args.opening.now (map row_at c.in-Ok.order.items) c.requires.distinct c.in-Ok.ensures)

pub returns-in-Ok-put_rows : goal.returns-in-Ok-put_rows
returns-in-Ok-put_rows g c =
    c.in-Ok-put_rows.ensures ∙ ap (λ rows. opening_table (map row_at rows)) c.deref.ensures.value
    ∙ opening_moved c.args.opening.now (map row_at c.in-Ok.order.items) c.requires.distinct c.in-Ok.ensures
