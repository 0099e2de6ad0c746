use Rattle.std.proofs.Common.{◌∙◌, ap, map, filter}
use Rattle.std.specs.Map.Iter.{deref_pair}
use Rattle.std.proofs.lemmas.Map.Iter.{iter_end}
use Rattle.hdl_name.specs.Name.{authority}
use Rattle.hdl_value.specs.Place.{same_handle}
use Rattle.hdl_rows.proofs.RowsLemmas.{Entries}
use Rattle.hdl_rows.proofs.Prefixes.{forward, names_between}
use Rattle.hdl_rows.proofs.row_store.RowStore.names.Goals as goal

pub range-name-items-requires : goal.range-name-items-requires
range-name-items-requires c = forward c.args.prefix.now c.in_ok-first.first.items c.in_ok-next.next.items c.in_ok-first.ensures c.in_ok-next.ensures

pub returns : goal.returns
returns c =
    let end = iter_end deref_pair c.range-name-items.result c.loop-name.yielded _ _ _ _ c.into_iter-name-iterator.ensures.into_iter_gives c.loop-name.yielded_by c.in-None.is c.next.ensures.steps in
    c.loop-name.invariant ∙ ap (λ (es : Entries). filter (λ h. same_handle (authority h) c.args.prefix.now) (map (λ e. e.0.items) es)) end.0
    ∙ names_between c.args.self.now c.self.inside.rows.entries c.args.prefix.now c.in_ok-first.first.items c.in_ok-next.next.items c.self.view_is c.self.invariant c.requires c.range-name-items.result c.in_ok-first.ensures c.in_ok-next.ensures (c.range-name-items.ensures.between tt)
