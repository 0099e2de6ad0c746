use Rattle.std.proofs.Common.{◌++◌, refl}
use Rattle.std.proofs.lemmas.Result.{on_ok_weaker}
use Rattle.std.specs.Prelude.{codes}
use Rattle.hdl_proxy.specs.declared.pages.TheConstants.{END}
use Rattle.hdl_proxy.specs.Pages.{columns}
use Rattle.hdl_proxy.proofs.Joined.{five}
use Rattle.hdl_proxy.proofs.pages.put_few.Goals as goal

pub returns : goal.returns
returns c =
    let head = columns c.args.language (codes "<table aria-label=\"") in
    let urls = c.in_ok-put_sections.ensures in
    let others = c.in_ok-put_sections-2.ensures in
    on_ok_weaker c.markup-2.result (λ put. (
      head ++ (codes "<tbody>\n" ++ (urls.0 ++ (others.0 ++ END.now))),
      (urls.0, others.0, urls.1, others.1, refl),
      five c.args.page.now.octets.items _ _ _ _ _ head (codes "<tbody>\n") urls.0 others.0 END.now c.in_ok-put_columns.ensures c.in_ok-markup.ensures urls.2 others.2 put,
    ))
    c.markup-2.ensures
