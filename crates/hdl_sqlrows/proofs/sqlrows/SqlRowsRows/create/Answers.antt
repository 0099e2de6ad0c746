use Rattle.std.proofs.Common.{◌≡◌, ◌∙◌, sym, ap, false}
use Rattle.hdl_name.specs.Name.{authority}
use Rattle.hdl_rows.specs.Table.{has, indexes}
use Rattle.hdl_rows.specs.Write.{Create}
use Rattle.hdl_sqlrows.specs.Stored.{table_of}
use Rattle.hdl_sqlrows.proofs.Placed.{absent_from, placed_by, at_canon}
use Rattle.hdl_sqlrows.proofs.sqlrows.SqlRowsRows.create.Goals as goal

pub create-done-requires-clause-authority : goal.create-done-requires-clause-authority
create-done-requires-clause-authority c = c.authority-authority.ensures.of_canon ∙ ap authority (sym c.canon.ensures)

pub create-done-requires-clause-none : goal.create-done-requires-clause-none
create-done-requires-clause-none c = (at_canon (λ t h. has t h ≡ false) _ _ _ _ c.self.view_is c.canon.ensures c.requires.absent)

pub create-done-requires-clause-absent : goal.create-done-requires-clause-absent
create-done-requires-clause-absent c = absent_from (table_of c.self.inside.conn) c.canon.result.now (indexes c.args.values.now) c.self.invariant.1 (at_canon (λ t h. has t h ≡ false) _ _ _ _ c.self.view_is c.canon.ensures c.requires.absent)

pub invariant_of-self : goal.invariant_of-self
invariant_of-self c =
    (c.create-done.ensures.settled, placed_by (table_of c.self.inside.conn) (table_of c.create-done.new.conn) (Create c.canon.result.now c.args.values.now) c.create-done.result c.self.invariant.1 ((at_canon (λ t h. has t h ≡ false) _ _ _ _ c.self.view_is c.canon.ensures c.requires.absent), c.requires.distinct) c.create-done.ensures.done c.create-done.ensures.undone)
