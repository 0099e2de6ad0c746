use Rattle.std.specs.Prelude.{codes}
use Rattle.std.proofs.lemmas.Result.{on_ok_weaker}
use Rattle.hdl_proxy.specs.Escape.{escaped}
use Rattle.hdl_proxy.specs.Pages.{redirect_page}
use Rattle.hdl_proxy.proofs.Joined.{seven, said}
use Rattle.hdl_proxy.proofs.pages.put_way.Goals as goal

pub returns : goal.returns
unfolding redirect_page
returns c =
    let to = c.args.to.now in
    on_ok_weaker c.markup-4.result (λ put.
    seven c.args.page.now.octets.items _ _ _ _ _ _ _
    (codes "<!DOCTYPE html>\n<meta charset=\"utf-8\">\n<title>") (escaped c.args.title.now) (codes "</title>\n<a href=\"") (escaped to) (codes "\">") (escaped to) (codes "</a>\n")
    c.in_ok-markup.ensures
    c.in_ok-text.ensures
    c.in_ok-markup-2.ensures
    (said c.markup-2.new.self.octets.items _ c.octets.result.now to c.in_ok-text-2.ensures c.octets.ensures.octets)
    c.in_ok-markup-3.ensures
    (said c.markup-3.new.self.octets.items _ c.octets-2.result.now to c.in_ok-text-3.ensures c.octets-2.ensures.octets)
    put)
    c.markup-4.ensures
