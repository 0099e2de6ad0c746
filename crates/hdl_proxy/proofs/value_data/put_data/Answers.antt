use Rattle.std.proofs.Common.{◌≡◌, None, rules}
use Rattle.std.proofs.lemmas.Result.{on_ok_weaker}
use Rattle.hdl_value.specs.Refs.{admin_read, list_read}
use Rattle.hdl_proxy.proofs.Sections.{text_told}
use Rattle.hdl_proxy.proofs.value_data.put_data.Goals as goal

pub returns : goal.returns
returns c =
    let value = c.args.value.now in
    let no_admin : admin_read value ≡ None = search rules in
    let no_list : list_read value ≡ None = search rules in
    on_ok_weaker c.put_text.result (λ put. (put.0, text_told c.args.language value put.0 no_admin no_list put.1, put.2)) c.put_text.ensures
