use Rattle.std.proofs.Common.{false, sym, ap, ◌∙◌, ◌==◌, length, rules, ◌≡◌}
use Rattle.std.proofs.lemmas.List.{length-map}
use Rattle.hdl_rows.specs.Heads.{head}
use Rattle.hdl_rows.specs.Table.{values_of}
use Rattle.hdl_sqlrows.specs.Stored.{table_of}
use Rattle.hdl_sqlrows.proofs.Placed.{there_if_some}
use Rattle.hdl_sqlrows.proofs.heads.heads.Goals as goal

pub returns-then-not-is_empty-clause-there : goal.returns-then-not-is_empty-clause-there
returns-then-not-is_empty-clause-there c =
    let vs = values_of (table_of c.args.conn.now) c.args.name.now in
    let some : (length c.in_ok-heads.heads.items == 0) ≡ false = search rules in
    let same : length c.in_ok-heads.heads.items ≡ length vs = ap length c.in_ok-heads.ensures.found ∙ length-map vs head in
    sym (there_if_some (table_of c.args.conn.now) c.args.name.now vs c.requires.placed c.in_ok-heads.ensures.by_index (ap (λ n. n == 0) (sym same) ∙ some))
