use Rattle.std.specs.Prelude.{codes, decimal}
use Rattle.std.proofs.lemmas.Result.{on_ok_weaker}
use Rattle.hdl_proxy.specs.Escape.{escaped}
use Rattle.hdl_proxy.specs.Pages.{reference_part}
use Rattle.hdl_proxy.proofs.Joined.{five, said}
use Rattle.hdl_proxy.proofs.value_data.put_reference.Goals as goal

pub returns : goal.returns
unfolding reference_part
returns c =
    let reference = c.args.reference.now in
    on_ok_weaker c.markup-3.result (λ put.
    five c.args.page.now.octets.items _ _ _ _ _
    (codes "<p class=\"data\">") (escaped (decimal reference.index)) (codes ":<bdi>") (escaped reference.name) (codes "</bdi></p>\n")
    c.in_ok-markup.ensures
    c.in_ok-number.ensures
    c.in_ok-markup-2.ensures
    (said c.markup-2.new.self.octets.items _ c.sent.result.now reference.name c.in_ok-text.ensures c.sent.ensures.octets)
    put)
    c.markup-3.ensures
