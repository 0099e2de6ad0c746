use Rattle.std.proofs.Common.{◌≡◌, true, false, refl, rules, IfOk}
use Rattle.std.specs.Str.{is_utf8}
use Rattle.std.proofs.lemmas.Bool.{false_from_ne_true}
use Rattle.std.proofs.lemmas.Str.{IsUtf8-from_is_utf8, is_utf8-from_IsUtf8}
use Rattle.hdl_languages.specs.Preferred.{preferred_in}
use Rattle.hdl_languages.proofs.language.preferred_by.Goals as goal

pub returns-in-Ok : goal.returns-in-Ok
returns-in-Ok c =
    let yes : is_utf8 c.args.field.now ≡ true = is_utf8-from_IsUtf8 _ c.in-Ok.ensures.cases.1 in
    let within : IfOk c.preferred_in.result (λ language. language ≡ preferred_in c.args.field.now) = search rules in
    rw yes within

pub returns-in-Err : goal.returns-in-Err
returns-in-Err c =
    let no : is_utf8 c.args.field.now ≡ false = false_from_ne_true _ (λ t. c.in-Err.ensures.cases.0 (IsUtf8-from_is_utf8 _ t)) in
    rw no refl
