use Rattle.std.proofs.Common.{◌∙◌, ap, sym, option_copied, is_some, []}
use Rattle.hdl_rows.proofs.ShelfLemmas.{values_there}
use Rattle.hdl_rows.proofs.Changes.{has_is, values_is, by_index_is, items_in}
use Rattle.hdl_rows.proofs.row_store.RowStore.look.Goals as goal

pub returns-in_ok-copies-in-Some-clause-there : goal.returns-in_ok-copies-in-Some-clause-there
returns-in_ok-copies-in-Some-clause-there c = ap is_some (sym (ap option_copied c.in-Some.is) ∙ c.get.ensures.value) ∙ has_is c.args.self.now c.self.inside.rows.entries c.args.name.now c.self.view_is

pub returns-in_ok-copies-in-Some-clause-found : goal.returns-in_ok-copies-in-Some-clause-found
returns-in_ok-copies-in-Some-clause-found c =
    c.in_ok-copies-in-Some.ensures ∙ c.deref.ensures.value ∙ ap (λ o. values_there (items_in o)) (sym (ap option_copied c.in-Some.is) ∙ c.get.ensures.value) ∙ values_is c.args.self.now c.self.inside.rows.entries c.args.name.now c.self.view_is c.self.invariant

pub returns-in_ok-copies-in-Some-clause-by_index : goal.returns-in_ok-copies-in-Some-clause-by_index
returns-in_ok-copies-in-Some-clause-by_index c =
    by_index_is c.args.self.now c.self.inside.rows.entries c.args.name.now c.in_ok-copies-in-Some.field-0.items c.self.view_is c.self.invariant (returns-in_ok-copies-in-Some-clause-found c)

pub returns-in-None-clause-there : goal.returns-in-None-clause-there
returns-in-None-clause-there c = ap is_some (sym (ap option_copied c.in-None.is) ∙ c.get.ensures.value) ∙ has_is c.args.self.now c.self.inside.rows.entries c.args.name.now c.self.view_is

pub returns-in-None-clause-found : goal.returns-in-None-clause-found
returns-in-None-clause-found c =
    ap (λ o. values_there (items_in o)) (sym (ap option_copied c.in-None.is) ∙ c.get.ensures.value) ∙ values_is c.args.self.now c.self.inside.rows.entries c.args.name.now c.self.view_is c.self.invariant

pub returns-in-None-clause-by_index : goal.returns-in-None-clause-by_index
returns-in-None-clause-by_index c =
    by_index_is c.args.self.now c.self.inside.rows.entries c.args.name.now [] c.self.view_is c.self.invariant (returns-in-None-clause-found c)
