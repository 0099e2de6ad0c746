use Rattle.std.proofs.Common.{◌∙◌, ap, List, ℕ}
use Rattle.hdl_name.specs.Name.{canonical}
use Rattle.hdl_rows.specs.Table.{indexes}
use Rattle.hdl_rows.specs.Write.{Create, Add, Modify, Remove, Delete}
use Rattle.hdl_durablerows.specs.Writes.{write_in}
use Rattle.hdl_durablerows.specs.Inverse.{values_at}
use Rattle.hdl_durablerows.proofs.Undoing.{own_by_look, undoes}
use Rattle.hdl_durablerows.proofs.inverse.inverse_of.Goals as goal

pub returns-in_ok-copy_of_name-in-Create-clause-undo : goal.returns-in_ok-copy_of_name-in-Create-clause-undo
returns-in_ok-copy_of_name-in-Create-clause-undo g c =
    undoes _ _ _ _ (ap write_in c.in-Create.is) tt (ap (λ (n : List ℕ). Delete (canonical n)) c.in_ok-copy_of_name-in-Create.ensures) c.requires.placed c.requires.can

pub returns-in_ok-copy_of_name-in-Add-clause-undo : goal.returns-in_ok-copy_of_name-in-Add-clause-undo
returns-in_ok-copy_of_name-in-Add-clause-undo g c =
    let found = c.in_ok-indexes-in-Add.ensures ∙ ap indexes c.deref.ensures.value in
    undoes _ _ _ _ (ap write_in c.in-Add.is) tt (λ k. Remove (canonical (c.in_ok-copy_of_name-in-Add.ensures k)) (found k)) c.requires.placed c.requires.can

pub returns-in_ok-copy_of_name-in-Modify-clause-undo : goal.returns-in_ok-copy_of_name-in-Modify-clause-undo
returns-in_ok-copy_of_name-in-Modify-clause-undo g c =
    let which = c.deref-in-Modify-2.ensures.value ∙ c.in_ok-indexes-in-Modify.ensures ∙ ap indexes c.deref-in-Modify.ensures.value in
    let found = c.in_ok-old-in-Modify.ensures.found ∙ ap (values_at (g.R.Rows.content c.args.rows.now) (canonical c.in-Modify.name)) which in
    undoes _ _ _ _ (ap write_in c.in-Modify.is) c.in_ok-old-in-Modify.ensures.own (λ k. Modify (canonical (c.in_ok-copy_of_name-in-Modify.ensures k)) (found k)) c.requires.placed c.requires.can

pub returns-in_ok-copy_of_name-in-Remove-clause-undo : goal.returns-in_ok-copy_of_name-in-Remove-clause-undo
returns-in_ok-copy_of_name-in-Remove-clause-undo g c =
    let found = c.in_ok-old-in-Remove.ensures.found ∙ ap (values_at (g.R.Rows.content c.args.rows.now) (canonical c.in-Remove.name)) c.deref-in-Remove.ensures.value in
    undoes _ _ _ _ (ap write_in c.in-Remove.is) c.in_ok-old-in-Remove.ensures.own (λ k. Add (canonical (c.in_ok-copy_of_name-in-Remove.ensures k)) (found k)) c.requires.placed c.requires.can

pub returns-in_ok-copy_of_name-in-Delete-clause-undo : goal.returns-in_ok-copy_of_name-in-Delete-clause-undo
returns-in_ok-copy_of_name-in-Delete-clause-undo g c =
    let own = own_by_look (g.R.Rows.content c.args.rows.now) (canonical c.in-Delete.name) c.in_ok-old-in-Delete.old.items c.in_ok-old-in-Delete.ensures.by_index in
    undoes _ _ _ _ (ap write_in c.in-Delete.is) own (λ k. Create (canonical (c.in_ok-copy_of_name-in-Delete.ensures k)) (c.in_ok-old-in-Delete.ensures.found k)) c.requires.placed c.requires.can
