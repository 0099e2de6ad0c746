use Rattle.std.proofs.Common.{◌≡◌, true, false, refl}
use Rattle.std.specs.Str.{is_utf8}
use Rattle.std.proofs.lemmas.Bool.{false_from_ne_true}
use Rattle.std.proofs.lemmas.Str.{IsUtf8-from_is_utf8, is_utf8-from_IsUtf8}
use Rattle.hdl_etcd.proofs.answers.text_in.Goals as goal

pub returns-in_default : goal.returns-in_default
returns-in_default c =
    let no : is_utf8 c.args.body.now ≡ false = false_from_ne_true _ (λ t. c.in_default.ensures.cases.0 (IsUtf8-from_is_utf8 c.args.body.now t)) in
    rw no refl

pub returns-in-Ok : goal.returns-in-Ok
returns-in-Ok c =
    let yes : is_utf8 c.args.body.now ≡ true = is_utf8-from_IsUtf8 c.args.body.now c.in-Ok.ensures.cases.1 in
    rw (yes, c.in-Ok.ensures.cases.0) refl
