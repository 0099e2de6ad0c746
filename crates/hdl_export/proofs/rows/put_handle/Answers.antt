use Rattle.std.proofs.Common.{◌≡◌, List, map, subst, arith}
use Rattle.std.specs.Prelude.{OnOk}
use Rattle.std.specs.List.{AllByRecursion}
use Rattle.std.proofs.lemmas.Grind.{common_steps}
use Rattle.hdl_value.specs.declared.value.Value.{Value}
use Rattle.hdl_export.specs.Lines.{IsWritable}
use Rattle.hdl_export.specs.Rows.{values_at}
use Rattle.hdl_export.proofs.rows.put_handle.Goals as goal

pub returns-clause-writable : goal.returns-clause-writable
returns-clause-writable g c =
    let same : c.as_slice.result.now ≡ values_at (map (λ p. p.now) c.args.prefixes.now) (g.R.Rows.content c.args.rows.now) c.args.handle.now = grind (arith, common_steps) in
    subst (λ (vs : List Value). OnOk c.put_values.result (AllByRecursion IsWritable vs)) same c.put_values.ensures.writable
