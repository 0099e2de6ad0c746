-- The lines of a text but those of values say its publishers, prefixes and site information.
use Rattle.std.proofs.Common.{◌≡◌, ℕ, ◌==◌, Bool, true, false, List, [], ◌∷◌, refl, sym, ap, subst, ◌∙◌, true≢false}
use Rattle.std.specs.Prelude.{not, filter}
use Rattle.std.specs.List.{join_with_byte}
use Rattle.std.proofs.lemmas.List.Splits.{join_with_byte-slice_split}
use Rattle.hdl_tenants.specs.Register.{Register}
use Rattle.hdl_tenants.specs.Lines.{fields_of}
use Rattle.hdl_tenants.specs.Text.{Line, skipped, publisher, hosted, sited, opened, IsLine, IsAllowed, Adds, AddsAll, register_after}
use Rattle.hdl_export.specs.Lines.{is_other}
use Rattle.hdl_export.specs.Laws.{with_rows}

-- the register without rows
abbrev bare : Register → Register
bare r = with_rows r []

-- the first octet of a line is that of its first field, where that is no empty one
pub begins : (line : List ℕ) (first : ℕ) (field : List ℕ) (more : List (List ℕ)) → fields_of line ≡ (first ∷ field) ∷ more → is_other line ≡ not (first == 118)
begins line first field [] e = ap is_other (sym (join_with_byte-slice_split 32 line) ∙ ap (join_with_byte 32) e)
begins line first field (next ∷ more) e = ap is_other (sym (join_with_byte-slice_split 32 line) ∙ ap (join_with_byte 32) e)

-- what is left of the step of one line
kept_step : (r s : Register) (line : List ℕ) (texts : List (List ℕ)) (t : Register) → (b : Bool) → is_other line ≡ b
    → (b ≡ true → Adds r line s) → (b ≡ false → r ≡ s) → AddsAll s (filter is_other texts) t → AddsAll r (filter is_other (line ∷ texts)) t
kept_step r s line texts t true e step same later = rw e (s, step refl, later)
kept_step r s line texts t false e step same later = rw e (subst (λ (x : Register). AddsAll x (filter is_other texts) t) (sym (same refl)) later)

-- the same, where the line is accepted
kept_line : (r between s : Register) (text : List ℕ) (texts : List (List ℕ)) → AddsAll (bare between) (filter is_other texts) (bare s)
    → (said : Line) → IsLine text said → IsAllowed r said → between ≡ register_after r said → AddsAll (bare r) (filter is_other (text ∷ texts)) (bare s)
kept_line r between s text texts rest skipped is ok e =
    kept_step (bare r) (bare between) text texts (bare s) (is_other text) refl
    (λ _. (skipped, is, tt, ap bare e)) (λ _. sym (ap bare e)) rest
kept_line r between s text texts rest (publisher p) is ok e =
    kept_step (bare r) (bare between) text texts (bare s) (is_other text) refl
    (λ _. (publisher p, is, ok, ap bare e)) (λ none. absurd (true≢false (sym (begins text _ _ _ is.split) ∙ none))) rest
kept_line r between s text texts rest (hosted prefix name a) is ok e =
    kept_step (bare r) (bare between) text texts (bare s) (is_other text) refl
    (λ _. (hosted prefix name a, is, ok, ap bare e)) (λ none. absurd (true≢false (sym (begins text _ _ _ is.split) ∙ none))) rest
kept_line r between s text texts rest (sited name octets) is ok e =
    kept_step (bare r) (bare between) text texts (bare s) (is_other text) refl
    (λ _. (sited name octets, is, (record { there = ok.0.there; layout = ok.0.layout }, ok.1), ap bare e)) (λ none. absurd (true≢false (sym (begins text _ _ _ is.split) ∙ none))) rest
kept_line r between s text texts rest (opened handle v) is ok e =
    kept_step (bare r) (bare between) text texts (bare s) (is_other text) refl
    (λ some. absurd (true≢false (sym some ∙ begins text _ _ _ is.split))) (λ _. sym (ap bare e)) rest

pub kept : (r s : Register) (texts : List (List ℕ)) → AddsAll r texts s → AddsAll (bare r) (filter is_other texts) (bare s)
kept r s [] h = ap bare h
kept r s (text ∷ texts) h = kept_line r h.0 s text texts (kept h.0 s texts h.2) h.1.0 h.1.1 h.1.2 h.1.3
