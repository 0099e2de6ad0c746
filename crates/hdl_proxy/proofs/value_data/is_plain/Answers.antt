use Rattle.std.proofs.Common.{◌≡◌, true, false, refl, rules}
use Rattle.std.specs.Str.{is_utf8}
use Rattle.std.specs.List.{list_all}
use Rattle.std.proofs.lemmas.Bool.{false_from_ne_true}
use Rattle.std.proofs.lemmas.Str.{IsUtf8-from_is_utf8, is_utf8-from_IsUtf8}
use Rattle.hdl_proxy.specs.Pages.{is_plain_octet}
use Rattle.hdl_proxy.proofs.value_data.is_plain.Goals as goal

pub returns-in_default : goal.returns-in_default
returns-in_default c =
    let no : is_utf8 c.args.octets.now ≡ false = false_from_ne_true _ (λ t. c.in_default.ensures.cases.0 (IsUtf8-from_is_utf8 c.args.octets.now t)) in
    rw no refl

pub returns : goal.returns
returns c =
    let yes : is_utf8 c.args.octets.now ≡ true = is_utf8-from_IsUtf8 c.args.octets.now c.in-Ok.ensures.cases.1 in
    let plain : c.are_plain.result ≡ list_all is_plain_octet c.args.octets.now = search rules in
    rw yes plain
