use Rattle.std.proofs.Common.{refl, sym, ap, ◌∙◌, arith}
use Rattle.hdl_value.specs.declared.value.Value.{Value}
use Rattle.hdl_rows.proofs.RowLemmas.{put_new, put_over, place_of_count}
use Rattle.hdl_cachedrows.proofs.cached_handle.put_value.Goals.{else-at-len-via-then-at-len+else-index-value, else-at-len-via-else-at-len}
use Rattle.hdl_cachedrows.proofs.cached_handle.put_value.Goals as goal

pub insert-requires : goal.insert-requires
insert-requires c =
    let at = place_of_count c.deref.result.now c.args.values.now.items c.count_below-at.result c.args.value.index c.deref.ensures.value c.count_below-at.ensures in
    omega (arith, at.1)

pub returns-then-index-value : goal.returns-then-index-value
returns-then-index-value c =
    let at = place_of_count c.deref.result.now c.args.values.now.items c.count_below-at.result c.args.value.index c.deref.ensures.value c.count_below-at.ensures in
    record { put = put_over c.args.values.now.items _ c.count_below-at.result c.args.value c.index.result.now at.0 (omega arith) (ap (λ (w : Value). w.index) (sym c.index.ensures) ∙ c.if-index-value.true) refl }

pub returns : goal.returns
returns c =
    let at = place_of_count c.deref.result.now c.args.values.now.items c.count_below-at.result c.args.value.index c.deref.ensures.value c.count_below-at.ensures in
    let new = c.in_ok-insert.ensures.items in
    record {
      put = elim c.else-at-len.branch [
        | else-at-len-via-then-at-len+else-index-value w ↦
            put_new c.args.values.now.items _ c.count_below-at.result c.args.value w.index.result.now at.0 (λ lt same. w.if-index-value.false (ap (λ (v : Value). v.index) w.index.ensures ∙ same)) new
        | else-at-len-via-else-at-len w ↦
            put_new c.args.values.now.items _ c.count_below-at.result c.args.value c.args.value at.0 (λ lt same. absurd (omega (arith, w.if-at-len.false))) new
      ];
    }
