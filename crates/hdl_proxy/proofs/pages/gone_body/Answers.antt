use Rattle.std.proofs.Common.{List, ℕ, ap, ◌++◌, ◌∙◌}
use Rattle.std.specs.Prelude.{codes}
use Rattle.hdl_proxy.specs.Pages.{another_part, known_part, name_part}
use Rattle.hdl_proxy.proofs.Joined.{five, put_as}
use Rattle.hdl_proxy.proofs.pages.gone_body.Goals as goal

pub returns : goal.returns
returns c =
    let why = c.in_ok-put_data.ensures in
    let written = c.in_ok-put_written.ensures in
    let known = known_part c.args.language c.args.name.now in
    let name = name_part c.args.name.now in
    let named = put_as c.in_ok-page.page.octets.items c.put_name.new.page.octets.items (codes "<p class=\"name\" dir=\"auto\">") c.sent.result.now c.args.name.now (codes "</p>\n") c.in_ok-put_name.ensures c.sent.ensures.octets in (
      why.0,
      written.0,
      why.1,
      written.1,
      five c.in_ok-page.page.octets.items c.put_name.new.page.octets.items _ _ _ _ name why.0 written.0 (another_part c.args.language) known named why.2 written.2 c.in_ok-put_another.ensures c.in_ok-put_known_link.ensures
          ∙ ap (λ (t : List ℕ). t ++ (name ++ (why.0 ++ (written.0 ++ (another_part c.args.language ++ known))))) c.in_ok-page.ensures,
    )
