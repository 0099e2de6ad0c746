use Rattle.std.proofs.Common.{◌≡◌, true, false, refl, rules}
use Rattle.std.specs.Str.{is_utf8, trim}
use Rattle.std.proofs.lemmas.Bool.{false_from_ne_true}
use Rattle.std.proofs.lemmas.Str.{IsUtf8-from_is_utf8, is_utf8-from_IsUtf8}
use Rattle.hdl_proxy.specs.Pasted.{between_spaces}
use Rattle.hdl_forms.proofs.open.between_spaces.Goals as goal

pub returns-in-Ok : goal.returns-in-Ok
unfolding between_spaces
returns-in-Ok c =
    let octets = c.args.octets.now in
    let yes : is_utf8 octets ≡ true = is_utf8-from_IsUtf8 octets c.in-Ok.ensures.cases.1 in
    let within : c.as_bytes.result.now ≡ trim octets = search rules in
    rw yes within

pub returns-in-Err : goal.returns-in-Err
unfolding between_spaces
returns-in-Err c =
    let octets = c.args.octets.now in
    let no : is_utf8 octets ≡ false = false_from_ne_true _ (λ t. c.in-Err.ensures.cases.0 (IsUtf8-from_is_utf8 octets t)) in
    rw no refl
