use Rattle.std.proofs.Common.{◌∙◌, ap, sym, option_copied}
use Rattle.hdl_rows.proofs.ShelfLemmas.{values_there}
use Rattle.hdl_rows.proofs.Changes.{values_is, by_index_is, if_ok, if_ok_then, items_in}
use Rattle.hdl_rows.proofs.row_store.RowStore.values.Goals as goal

pub returns-in-Some-clause-found : goal.returns-in-Some-clause-found
returns-in-Some-clause-found c =
    let all = values_is c.args.self.now c.self.inside.rows.entries c.args.name.now c.self.view_is c.self.invariant in
    if_ok c.copies.result (λ all. all.items) _ _ c.copies.ensures (c.deref.ensures.value ∙ ap (λ o. values_there (items_in o)) (sym (ap option_copied c.in-Some.is) ∙ c.get.ensures.value) ∙ all)

pub returns-in-Some-clause-by_index : goal.returns-in-Some-clause-by_index
returns-in-Some-clause-by_index c =
    let all = values_is c.args.self.now c.self.inside.rows.entries c.args.name.now c.self.view_is c.self.invariant in
    let found = if_ok c.copies.result (λ all. all.items) _ _ c.copies.ensures (c.deref.ensures.value ∙ ap (λ o. values_there (items_in o)) (sym (ap option_copied c.in-Some.is) ∙ c.get.ensures.value) ∙ all) in
    if_ok_then c.copies.result _ _ (λ all is. by_index_is c.args.self.now c.self.inside.rows.entries c.args.name.now all.items c.self.view_is c.self.invariant is) found

pub returns-in-None-clause-found : goal.returns-in-None-clause-found
returns-in-None-clause-found c =
    c.new.ensures.items ∙ ap (λ o. values_there (items_in o)) (sym (ap option_copied c.in-None.is) ∙ c.get.ensures.value) ∙ values_is c.args.self.now c.self.inside.rows.entries c.args.name.now c.self.view_is c.self.invariant

pub returns-in-None-clause-by_index : goal.returns-in-None-clause-by_index
returns-in-None-clause-by_index c =
    let all = values_is c.args.self.now c.self.inside.rows.entries c.args.name.now c.self.view_is c.self.invariant in
    by_index_is c.args.self.now c.self.inside.rows.entries c.args.name.now c.new.result.items c.self.view_is c.self.invariant (c.new.ensures.items ∙ ap (λ o. values_there (items_in o)) (sym (ap option_copied c.in-None.is) ∙ c.get.ensures.value) ∙ all)
