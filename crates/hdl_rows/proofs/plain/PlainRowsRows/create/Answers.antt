use Rattle.std.proofs.Common.{◌∙◌, sym}
use Rattle.hdl_rows.proofs.Prefixes.{canonical_has, have_after_create}
use Rattle.hdl_rows.proofs.plain.PlainRowsRows.create.Goals as goal

pub invariant_of-self : goal.invariant_of-self
invariant_of-self c =
    let its = canonical_has c.args.name.now c.canon.result.now c.canon.ensures (sym c.authority.ensures.of_sent ∙ c.authority.ensures.of_canon) in
    have_after_create c.create-done.result c.self.inside.row_store c.create-done.new.self c.canon.result.now c.args.values.now c.self.invariant its c.create-done.ensures.done c.create-done.ensures.undone
