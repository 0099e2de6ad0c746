use Rattle.std.proofs.Common.{◌∙◌, ap, map, sym, refl, option_copied, is_some, []}
use Rattle.hdl_rows.specs.Heads.{head}
use Rattle.hdl_rows.specs.Table.{values_of}
use Rattle.hdl_rows.proofs.ShelfLemmas.{values_there}
use Rattle.hdl_rows.proofs.Changes.{has_is, values_is, by_index_is, items_in}
use Rattle.hdl_rows.proofs.row_store.RowStore.heads.Goals as goal

pub returns-in_ok-heads_of-in-Some-clause-there : goal.returns-in_ok-heads_of-in-Some-clause-there
returns-in_ok-heads_of-in-Some-clause-there c = ap is_some (sym (ap option_copied c.in-Some.is) ∙ c.get.ensures.value) ∙ has_is c.args.self.now c.self.inside.rows.entries c.args.name.now c.self.view_is

pub returns-in_ok-heads_of-in-Some-clause-found : goal.returns-in_ok-heads_of-in-Some-clause-found
returns-in_ok-heads_of-in-Some-clause-found c =
    c.in_ok-heads_of-in-Some.ensures
    ∙ ap (map head) (c.deref.ensures.value ∙ ap (λ o. values_there (items_in o)) (sym (ap option_copied c.in-Some.is) ∙ c.get.ensures.value) ∙ values_is c.args.self.now c.self.inside.rows.entries c.args.name.now c.self.view_is c.self.invariant)

pub returns-in_ok-heads_of-in-Some-clause-by_index : goal.returns-in_ok-heads_of-in-Some-clause-by_index
returns-in_ok-heads_of-in-Some-clause-by_index c = by_index_is c.args.self.now c.self.inside.rows.entries c.args.name.now (values_of c.args.self.now c.args.name.now) c.self.view_is c.self.invariant refl

pub returns-in-None-clause-there : goal.returns-in-None-clause-there
returns-in-None-clause-there c = ap is_some (sym (ap option_copied c.in-None.is) ∙ c.get.ensures.value) ∙ has_is c.args.self.now c.self.inside.rows.entries c.args.name.now c.self.view_is

pub returns-in-None-clause-found : goal.returns-in-None-clause-found
returns-in-None-clause-found c =
    ap (map head) (ap (λ o. values_there (items_in o)) (sym (ap option_copied c.in-None.is) ∙ c.get.ensures.value) ∙ values_is c.args.self.now c.self.inside.rows.entries c.args.name.now c.self.view_is c.self.invariant)

pub returns-in-None-clause-by_index : goal.returns-in-None-clause-by_index
returns-in-None-clause-by_index c = by_index_is c.args.self.now c.self.inside.rows.entries c.args.name.now (values_of c.args.self.now c.args.name.now) c.self.view_is c.self.invariant refl
