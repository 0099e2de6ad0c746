use Rattle.std.specs.Prelude.{codes, decimal}
use Rattle.std.proofs.lemmas.Result.{on_ok_weaker}
use Rattle.hdl_proxy.specs.Escape.{escaped}
use Rattle.hdl_proxy.specs.Pages.{heading}
use Rattle.hdl_proxy.proofs.Joined.{five, said}
use Rattle.hdl_proxy.proofs.pages.put_heading.Goals as goal

pub returns : goal.returns
unfolding heading
returns c =
    let value = c.args.value.now in
    on_ok_weaker c.markup-3.result (λ put.
    five c.args.page.now.octets.items _ _ _ _ _
    (codes "<tr><th scope=\"row\"><bdi>") (escaped value.kind) (codes "</bdi> <small>") (escaped (decimal value.index)) (codes "</small></th>\n<td>")
    c.in_ok-markup.ensures
    (said c.markup.new.self.octets.items _ c.as_slice.result.now value.kind c.in_ok-text.ensures c.as_slice.ensures)
    c.in_ok-markup-2.ensures
    c.in_ok-number.ensures
    put)
    c.markup-3.ensures
