use Rattle.std.proofs.Common.{◌≡◌, ℕ, false, List, ◌++◌, ap, sym, ◌∙◌}
use Rattle.std.specs.Prelude.{codes}
use Rattle.std.specs.Str.{bytes_eq}
use Rattle.std.proofs.lemmas.List.{append_cancel_left}
use Rattle.std.proofs.lemmas.Slice.Eq.{bytes_eq-Decides}
use Rattle.hdl_proxy.specs.Locations.{wanted_text}
use Rattle.hdl_proxy.proofs.Asked.{same_test}
use Rattle.hdl_proxy.proofs.locations.is_asked.Goals as goal

pub returns-in-Some-after : goal.returns-in-Some-after
returns-in-Some-after c =
    let name = c.args.one.now.name.items in
    let said = c.args.one.now.text.items in
    let text = c.in-Some-after.text.now in
    let whole : c.args.locatt.now ≡ name ++ (codes ":" ++ text) =
    c.in-Some.ensures.found ∙ ap (λ (x : List ℕ). x ++ c.in-Some.rest.now) c.deref.ensures.value ∙ ap (λ (x : List ℕ). name ++ x) c.in-Some-after.ensures.found in
    let tests : c.eq.result ≡ bytes_eq text said = c.eq.ensures ∙ ap (λ (x : List ℕ). bytes_eq text x) c.as_slice.ensures.value in
    same_test (wanted_text c.args.one.now) c.args.locatt.now c.eq.result
    (λ e. ap (λ (x : List ℕ). name ++ (codes ":" ++ x)) (sym ((bytes_eq-Decides text said).0 (sym tests ∙ e))) ∙ sym whole)
    (λ e. tests ∙ (bytes_eq-Decides text said).1 (sym (append_cancel_left (codes ":") said text (append_cancel_left name (codes ":" ++ said) (codes ":" ++ text) (e ∙ whole)))))

pub returns-in-None : goal.returns-in-None
returns-in-None c =
    let name = c.args.one.now.name.items in
    let said = c.args.one.now.text.items in
    let rest = c.in-Some.rest.now in
    let whole : c.args.locatt.now ≡ name ++ rest = c.in-Some.ensures.found ∙ ap (λ (x : List ℕ). x ++ rest) c.deref.ensures.value in
    same_test (wanted_text c.args.one.now) c.args.locatt.now false (λ e. absurd cc)
    (λ e. absurd (c.in-None.ensures.none said (sym (append_cancel_left name (codes ":" ++ said) rest (e ∙ whole)))))
