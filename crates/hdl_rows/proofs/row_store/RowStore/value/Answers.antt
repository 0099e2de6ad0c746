use Rattle.std.proofs.Common.{◌∙◌, ap, sym, option_copied, List}
use Rattle.std.specs.FinMap.{find, is_sorted}
use Rattle.std.specs.Ordering.{nat_cmp}
use Rattle.hdl_value.specs.declared.value.Value.{Value}
use Rattle.hdl_rows.specs.RowStore.{by_index}
use Rattle.hdl_rows.proofs.ShelfLemmas.{within}
use Rattle.hdl_rows.proofs.Changes.{at_is, found_rises, items_in}
use Rattle.hdl_rows.proofs.row_store.RowStore.value.Goals as goal

pub value_of-requires : goal.value_of-requires
value_of-requires c =
    let rises = found_rises c.self.inside.rows.entries c.args.name.now c.in-Some.values.now c.self.invariant (sym c.get.ensures.value ∙ ap option_copied c.in-Some.is) in
    record { ordered = ap (λ (vs : List Value). is_sorted nat_cmp (by_index vs)) c.deref.ensures.value ∙ rises }

pub returns-in-Some : goal.returns-in-Some
returns-in-Some c =
    c.value_of.ensures ∙ ap (λ (vs : List Value). find nat_cmp c.args.index (by_index vs)) c.deref.ensures.value ∙ ap (λ o. within (items_in o) c.args.index) (sym (ap option_copied c.in-Some.is) ∙ c.get.ensures.value)
    ∙ at_is c.args.self.now c.self.inside.rows.entries c.args.name.now c.args.index c.self.view_is c.self.invariant

pub returns-in-None : goal.returns-in-None
returns-in-None c = ap (λ o. within (items_in o) c.args.index) (sym (ap option_copied c.in-None.is) ∙ c.get.ensures.value) ∙ at_is c.args.self.now c.self.inside.rows.entries c.args.name.now c.args.index c.self.view_is c.self.invariant
