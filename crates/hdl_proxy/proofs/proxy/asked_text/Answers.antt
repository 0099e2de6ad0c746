use Rattle.std.proofs.Common.{◌≡◌, true, false, sym, ◌∙◌}
use Rattle.std.specs.Str.{is_utf8}
use Rattle.std.proofs.lemmas.Bool.{cond-true, cond-false, false_from_ne_true}
use Rattle.std.proofs.lemmas.Str.{IsUtf8-from_is_utf8, is_utf8-from_IsUtf8}
use Rattle.hdl_proxy.proofs.proxy.asked_text.Goals as goal

pub returns-in-Ok : goal.returns-in-Ok
returns-in-Ok c =
    let octets = c.args.octets.now in
    let yes : is_utf8 octets ≡ true = is_utf8-from_IsUtf8 octets c.in-Ok.ensures.cases.1 in
    sym (cond-true (is_utf8 octets) octets c.args.sent.now yes)

pub returns-in-Err : goal.returns-in-Err
returns-in-Err c =
    let octets = c.args.octets.now in
    let no : is_utf8 octets ≡ false = false_from_ne_true _ (λ t. c.in-Err.ensures.cases.0 (IsUtf8-from_is_utf8 octets t)) in
    c.as_bytes.ensures.value ∙ sym (cond-false (is_utf8 octets) octets c.args.sent.now no)
