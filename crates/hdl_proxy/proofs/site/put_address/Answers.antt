use Rattle.std.specs.Prelude.{codes}
use Rattle.std.proofs.lemmas.Result.{on_ok_weaker}
use Rattle.hdl_proxy.specs.Pages.{element}
use Rattle.hdl_proxy.specs.Site.{address_part}
use Rattle.hdl_proxy.proofs.Joined.{four}
use Rattle.hdl_proxy.proofs.site.put_address.Goals as goal

pub returns : goal.returns
unfolding address_part
returns c =
    let title = c.args.title.now in
    let name = c.args.name.now in
    let address = c.args.address.now in
    on_ok_weaker c.element-4.result (λ put.
    four c.args.page.now.octets.items _ _ _ _
    (element (codes "<link rel=\"canonical\" href=\"") address (codes "\">\n")) (element (codes "<meta property=\"og:url\" content=\"") address (codes "\">\n"))
    (element (codes "<meta property=\"og:title\" content=\"") title (codes "\">\n")) (element (codes "<meta property=\"og:site_name\" content=\"") name (codes "\">\n"))
    c.in_ok-element.ensures
    c.in_ok-element-2.ensures
    c.in_ok-element-3.ensures
    put)
    c.element-4.ensures
