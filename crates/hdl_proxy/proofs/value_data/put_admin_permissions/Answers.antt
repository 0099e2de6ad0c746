use Rattle.std.proofs.lemmas.Result.{on_ok_weaker}
use Rattle.hdl_languages.specs.declared.phrase.Phrase.TheVariants as phrases
use Rattle.hdl_value.specs.declared.permission.AdminPermission.TheVariants as may
use Rattle.hdl_proxy.specs.Pages.{admin_permissions, permission_part}
use Rattle.hdl_proxy.proofs.Joined.{three}
use Rattle.hdl_proxy.proofs.value_data.put_admin_permissions.Goals as goal

pub returns : goal.returns
unfolding admin_permissions
returns c =
    let mask = c.args.mask.0 in
    on_ok_weaker c.put_permission-3.result (λ put.
    three c.args.page.now.octets.items _ _ _
    (permission_part c.args.language mask may.AddAdmin phrases.AddAdministrators)
    (permission_part c.args.language mask may.ModifyAdmin phrases.ChangeAdministrators)
    (permission_part c.args.language mask may.RemoveAdmin phrases.RemoveAdministrators)
    c.in_ok-put_permission.ensures
    c.in_ok-put_permission-2.ensures
    put)
    c.put_permission-3.ensures
