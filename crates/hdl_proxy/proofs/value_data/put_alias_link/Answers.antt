use Rattle.std.specs.Prelude.{codes}
use Rattle.std.proofs.lemmas.Result.{on_ok_weaker}
use Rattle.hdl_proxy.specs.Pages.{alias_link, handle_link}
use Rattle.hdl_proxy.proofs.Joined.{three}
use Rattle.hdl_proxy.proofs.value_data.put_alias_link.Goals as goal

pub returns : goal.returns
unfolding alias_link
returns c =
    on_ok_weaker c.markup-2.result (λ put.
    three c.args.page.now.octets.items _ _ _
    (codes "<p class=\"data\">") (handle_link c.args.name.now) (codes "</p>\n")
    c.in_ok-markup.ensures
    c.in_ok-handle.ensures
    put)
    c.markup-2.ensures
