use Rattle.std.proofs.Common.{◌≡◌, ◌++◌, ap, [], ◌∙◌, ℕ, List, get_or, refl, sym}
use Rattle.std.specs.List.{flat_map}
use Rattle.hdl_forms.specs.History.{line_part}
use Rattle.hdl_forms.proofs.Rows.{one_more}
use Rattle.hdl_forms.proofs.history.with_lines.Goals as goal

pub loop-line-preserved : goal.loop-line-preserved
loop-line-preserved c =
    one_more line_part (c.args.page ++ flat_map line_part c.args.lines.now) c.loop-line.rows c.in_ok-rows.rows c.args.lines.now c.loop-line.line-index
    _ _ c.loop-line-test.true c.line-item.is (c.in_ok-rows.ensures ∙ ap (λ line. c.loop-line.rows ++ line_part line) c.as_slice.ensures) c.loop-line.invariant
