use Rattle.std.proofs.Common.{ap, ◌∙◌, arith}
use Rattle.std.proofs.lemmas.List.{get_or_default}
use Rattle.hdl_value.specs.declared.value.Value.{Value}
use Rattle.hdl_rows.proofs.RowLemmas.{value_found, value_missing}
use Rattle.hdl_rows.proofs.row.value_of.Goals.{else-at-values-via-then-at-values+else-values-at, else-at-values-via-else-at-values}
use Rattle.hdl_rows.proofs.row.value_of.Goals as goal

pub returns-then-values-at : goal.returns-then-values-at
returns-then-values-at c =
    let read = c.index-values-at-then-values-at in
    let same = read.is ∙ get_or_default c.args.values.now c.count_below-at.result read.result c.index-values-at.result c.if-at-values.true in
    value_found c.args.values.now c.args.index c.count_below-at.result read.result c.count_below-at.ensures c.if-at-values.true read.is (ap (λ (v : Value). v.index) same ∙ c.if-values-at.true)

pub returns-else-at-values : goal.returns-else-at-values
returns-else-at-values c =
    value_missing c.args.values.now c.args.index c.count_below-at.result c.requires.ordered c.count_below-at.ensures (λ d inside same. elim c.else-at-values.branch [
      | else-at-values-via-then-at-values+else-values-at w ↦
          w.if-values-at.false (ap (λ (v : Value). v.index) (get_or_default c.args.values.now c.count_below-at.result w.index-values-at.result d inside) ∙ same)
      | else-at-values-via-else-at-values w ↦ omega (arith, w.if-at-values.false)
    ])
