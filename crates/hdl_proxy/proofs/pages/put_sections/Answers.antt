use Rattle.std.proofs.Common.{ℕ, List, ◌++◌, ap, ◌∙◌, append_assoc, arith}
use Rattle.hdl_proxy.specs.Pages.{is_put}
use Rattle.hdl_proxy.proofs.Sections.{rows_more}
use Rattle.hdl_proxy.proofs.pages.put_sections.Goals as goal

pub loop-value-preserved : goal.loop-value-preserved
loop-value-preserved c =
    let done = c.loop-value.invariant in
    let put = c.in_ok-put_row.ensures in (
      done.0 ++ put.0,
      rows_more c.args.language (is_put c.args.are_urls) c.args.values.now c.loop-value.value-index c.value-item.result c.is_put.result done.0 put.0 (omega arith) c.value-item.is c.is_put.ensures done.1 put.1,
      put.2 ∙ ap (λ (x : List ℕ). x ++ put.0) done.2 ∙ append_assoc c.args.page.now.octets.items done.0 put.0,
    )
