use Rattle.std.proofs.lemmas.Result.{on_ok_weaker}
use Rattle.hdl_languages.specs.declared.phrase.Phrase.TheVariants as phrases
use Rattle.hdl_value.specs.declared.permission.AdminPermission.TheVariants as may
use Rattle.hdl_proxy.specs.Pages.{handle_permissions, permission_part}
use Rattle.hdl_proxy.proofs.Joined.{four}
use Rattle.hdl_proxy.proofs.value_data.put_handle_permissions.Goals as goal

pub returns : goal.returns
unfolding handle_permissions
returns c =
    let mask = c.args.mask.0 in
    on_ok_weaker c.put_permission-4.result (λ put.
    four c.args.page.now.octets.items _ _ _ _
    (permission_part c.args.language mask may.AddHandle phrases.CreateHandles)
    (permission_part c.args.language mask may.DeleteHandle phrases.DeleteHandles)
    (permission_part c.args.language mask may.ListHandle phrases.ListHandles)
    (permission_part c.args.language mask may.AuthorizedRead phrases.ReadHidden)
    c.in_ok-put_permission.ensures
    c.in_ok-put_permission-2.ensures
    c.in_ok-put_permission-3.ensures
    put)
    c.put_permission-4.ensures
