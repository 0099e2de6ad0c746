use Rattle.std.proofs.Common.{◌≡◌, ℕ, List, ◌++◌, true, false, ap, sym, ◌∙◌}
use Rattle.std.specs.Str.{is_utf8}
use Rattle.std.proofs.lemmas.Bool.{cond-false, cond-true, false_from_ne_true}
use Rattle.std.proofs.lemmas.Result.{on_ok_weaker}
use Rattle.std.proofs.lemmas.Str.{IsUtf8-from_is_utf8, is_utf8-from_IsUtf8}
use Rattle.hdl_proxy.specs.Escape.{entities, escaped, visible, visible_text}
use Rattle.hdl_proxy.proofs.escape.put_escaped.Goals as goal

pub returns-in_default : goal.returns-in_default
unfolding escaped
returns-in_default c =
    let text = c.args.text.now in
    let no : is_utf8 text ≡ false = false_from_ne_true _ (λ t. c.in_default.ensures.cases.0 (IsUtf8-from_is_utf8 text t)) in
    let same : text ≡ visible text = sym (cond-false (is_utf8 text) (visible_text text) text no) in
    on_ok_weaker c.put_entities.result (λ put. put ∙ ap (λ (t : List ℕ). c.args.out.now.items ++ entities t) same) c.put_entities.ensures

pub returns : goal.returns
unfolding escaped
returns c =
    let text = c.args.text.now in
    let yes : is_utf8 text ≡ true = is_utf8-from_IsUtf8 text c.in-Ok.ensures.cases.1 in
    let shown : c.as_bytes.result.now ≡ visible_text text = c.as_bytes.ensures.value ∙ c.in_ok-shown.ensures ∙ ap visible_text c.in-Ok.ensures.cases.0 in
    let same : c.as_bytes.result.now ≡ visible text = shown ∙ sym (cond-true (is_utf8 text) (visible_text text) text yes) in
    on_ok_weaker c.put_entities-2.result (λ put. put ∙ ap (λ (t : List ℕ). c.args.out.now.items ++ entities t) same) c.put_entities-2.ensures
