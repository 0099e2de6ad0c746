use Rattle.std.proofs.Common.{◌++◌, refl}
use Rattle.std.specs.Prelude.{codes}
use Rattle.std.proofs.lemmas.Result.{on_ok_weaker}
use Rattle.hdl_proxy.specs.Pages.{heading}
use Rattle.hdl_proxy.proofs.Joined.{four}
use Rattle.hdl_proxy.proofs.pages.put_value.Goals as goal

pub returns : goal.returns
returns c =
    let head = heading c.args.value.now in
    let shown = c.in_ok-put_data.ensures in
    let written = c.in_ok-put_written.ensures in
    on_ok_weaker c.markup.result (λ put. (
      head ++ (shown.0 ++ (written.0 ++ codes "</td></tr>\n")),
      (shown.0, written.0, shown.1, written.1, refl),
      four c.args.page.now.octets.items _ _ _ _ head shown.0 written.0 (codes "</td></tr>\n") c.in_ok-put_heading.ensures shown.2 written.2 put,
    ))
    c.markup.ensures
