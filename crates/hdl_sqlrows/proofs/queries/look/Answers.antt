use Rattle.std.proofs.Common.{false, sym, ◌==◌, length, rules, ◌≡◌}
use Rattle.hdl_sqlrows.specs.Stored.{table_of}
use Rattle.hdl_sqlrows.proofs.Placed.{there_if_some}
use Rattle.hdl_sqlrows.proofs.queries.look.Goals as goal

pub returns-then-not-is_empty-clause-there : goal.returns-then-not-is_empty-clause-there
returns-then-not-is_empty-clause-there c =
    let some : (length c.in_ok-values.values.items == 0) ≡ false = search rules in
    sym (there_if_some (table_of c.args.conn.now) c.args.name.now c.in_ok-values.values.items c.requires.placed c.in_ok-values.ensures.by_index some)
