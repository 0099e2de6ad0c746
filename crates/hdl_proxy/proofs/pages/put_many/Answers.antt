use Rattle.std.proofs.Common.{◌++◌, refl}
use Rattle.std.specs.Prelude.{codes}
use Rattle.std.proofs.lemmas.Result.{on_ok_weaker}
use Rattle.hdl_proxy.specs.Pages.{columns}
use Rattle.hdl_proxy.proofs.Joined.{four}
use Rattle.hdl_proxy.proofs.pages.put_many.Goals as goal

pub returns : goal.returns
returns c =
    let head = columns c.args.language (codes "<table class=\"types\" aria-label=\"") in
    let urls = c.in_ok-put_groups.ensures in
    let others = c.in_ok-put_groups-2.ensures in
    on_ok_weaker c.markup.result (λ put. (
      head ++ (urls.0 ++ (others.0 ++ codes "</table>\n")),
      (urls.0, others.0, urls.1, others.1, refl),
      four c.args.page.now.octets.items _ _ _ _ head urls.0 others.0 (codes "</table>\n") c.in_ok-put_columns.ensures urls.2 others.2 put,
    ))
    c.markup.ensures
