use Rattle.std.specs.Prelude.{codes}
use Rattle.std.proofs.lemmas.Result.{on_ok_weaker}
use Rattle.hdl_proxy.specs.Pages.{admin_permissions, handle_permissions, permissions_part, value_permissions}
use Rattle.hdl_proxy.proofs.Joined.{five}
use Rattle.hdl_proxy.proofs.value_data.put_permissions.Goals as goal

pub returns : goal.returns
unfolding permissions_part
returns c =
    let mask = c.args.mask.0 in
    on_ok_weaker c.markup-2.result (λ put.
    five c.args.page.now.octets.items _ _ _ _ _
    (codes "<ul class=\"may\">") (handle_permissions c.args.language mask) (value_permissions c.args.language mask) (admin_permissions c.args.language mask) (codes "</ul>\n")
    c.in_ok-markup.ensures
    c.in_ok-put_handle_permissions.ensures
    c.in_ok-put_value_permissions.ensures
    c.in_ok-put_admin_permissions.ensures
    put)
    c.markup-2.ensures
