use Rattle.std.proofs.Common.{◌≡◌, true, false, sym, ap, ◌∙◌}
use Rattle.std.specs.Prelude.{codes}
use Rattle.std.specs.Str.{is_utf8}
use Rattle.std.proofs.lemmas.Bool.{cond-true, cond-false, false_from_ne_true}
use Rattle.std.proofs.lemmas.Result.{IfOk-weaker}
use Rattle.std.proofs.lemmas.Str.{IsUtf8-from_is_utf8, is_utf8-from_IsUtf8}
use Rattle.serde_json.specs.Data.{Data, string}
use Rattle.hdl_proxy.specs.Json.{with_format, text_json}
use Rattle.hdl_proxy.proofs.json.text_json.Goals as goal

pub returns-in_ok-from_str-in-Ok : goal.returns-in_ok-from_str-in-Ok
unfolding text_json
returns-in_ok-from_str-in-Ok c =
    let octets = c.args.octets.now in
    let yes : is_utf8 octets ≡ true = is_utf8-from_IsUtf8 octets c.in-Ok.ensures.cases.1 in
    let told = c.from.ensures ∙ ap string (c.in_ok-from_str-in-Ok.ensures.ok ∙ c.in-Ok.ensures.cases.0) in
    IfOk-weaker c.with_format.result _ _ (λ json same. same ∙ ap (λ (d : Data). with_format (codes "string") d) told ∙ sym (cond-true (is_utf8 octets) _ _ yes)) c.with_format.ensures

pub returns-in-Err : goal.returns-in-Err
unfolding text_json
returns-in-Err c =
    let octets = c.args.octets.now in
    let no : is_utf8 octets ≡ false = false_from_ne_true _ (λ t. c.in-Err.ensures.cases.0 (IsUtf8-from_is_utf8 octets t)) in
    IfOk-weaker c.base64_json.result _ _ (λ json same. same ∙ sym (cond-false (is_utf8 octets) _ _ no)) c.base64_json.ensures
