use Rattle.std.proofs.Common.{◌≡◌, ◌<◌, ◌∙◌, sym, ap, get_or, length, map, take, arith}
use Rattle.std.proofs.lemmas.List.{length-map, get_or-map}
use Rattle.hdl_rows.specs.Table.{at}
use Rattle.hdl_tenants.specs.Register.{place}
use Rattle.hdl_core.specs.Opening.{opening_table, with_row, row_at}
use Rattle.hdl_core.proofs.Opened.{others_before, rows_more}
use Rattle.hdl_core.proofs.opening.put_rows.Goals as goal

pub put_row-requires : goal.put_row-requires
put_row-requires g c =
    let rows = map row_at c.args.opening.now in
    let row = row_at c.row-item.result in
    let i = c.loop-row.row-index in
    let len = length-map c.args.opening.now row_at in
    let inside : c.loop-row.row-index < length (map row_at c.args.opening.now) = omega (arith, len) in
    let here : get_or (map row_at c.args.opening.now) c.loop-row.row-index (row_at c.row-item.result) ≡ row_at c.row-item.result = get_or-map row_at c.args.opening.now i c.row-item.result row (omega arith) ∙ ap row_at (sym c.row-item.is) in
    record { free = ap (λ t. at t (place row)) c.loop-row.invariant ∙ ap (λ r. at (opening_table (take i rows)) (place r)) (sym here) ∙ others_before rows i row inside c.requires.distinct }

pub loop-row-preserved : goal.loop-row-preserved
loop-row-preserved g c =
    let rows = map row_at c.args.opening.now in
    let row = row_at c.row-item.result in
    let i = c.loop-row.row-index in
    let len = length-map c.args.opening.now row_at in
    let inside : c.loop-row.row-index < length (map row_at c.args.opening.now) = omega (arith, len) in
    let here : get_or (map row_at c.args.opening.now) c.loop-row.row-index (row_at c.row-item.result) ≡ row_at c.row-item.result = get_or-map row_at c.args.opening.now i c.row-item.result row (omega arith) ∙ ap row_at (sym c.row-item.is) in
    c.in_ok-put_row.ensures ∙ ap (λ t. with_row t row) c.loop-row.invariant ∙ ap (with_row (opening_table (take i rows))) (sym here) ∙ rows_more rows i row inside c.requires.distinct
