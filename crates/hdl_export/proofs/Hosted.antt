-- The prefixes that lines name are those that the register hosts.
use Rattle.std.proofs.Common.{◌≡◌, ℕ, ◌==◌, List, [], ◌∷◌, ◌++◌, length, refl, sym, ap, ◌∙◌, append_assoc, arith, inl, inr}
use Rattle.std.specs.List.{slice_split, onto_first}
use Rattle.std.proofs.lemmas.List.{append-nil, map-append}
use Rattle.hdl_tenants.specs.Register.{Hosting, Register, empty, prefixes_of}
use Rattle.hdl_tenants.specs.Lines.{fields_of}
use Rattle.hdl_tenants.specs.Text.{Line, skipped, publisher, hosted, sited, opened, IsLine, IsSkipped, AddsAll, register_after, place_of, IsAccepted}
use Rattle.hdl_export.specs.Prefixes.{prefix_named}
use Rattle.hdl_export.specs.Laws.{prefixes_in}

none_in : (first : List ℕ) (more : List (List ℕ)) → prefix_named ((35 ∷ first) ∷ more) ≡ []
none_in first [] = refl
none_in first (next ∷ more) = refl

none_onto : (parts : List (List ℕ)) → prefix_named (onto_first 35 parts) ≡ []
none_onto [] = refl
none_onto (part ∷ parts) = none_in part parts

skipped_names_none : (text : List ℕ) → IsSkipped text → prefix_named (fields_of text) ≡ []
skipped_names_none [] s = refl
skipped_names_none (first ∷ rest) (inl none) = absurd (omega (arith, ap length none))
skipped_names_none (first ∷ rest) (inr at) =
    let same : first ≡ 35 = cc in
    rw same (none_onto (slice_split (λ b. b == 32) rest))

line_names : (r : Register) (text : List ℕ) (line : Line) → IsLine text line → prefixes_of (register_after r line).hostings ≡ prefixes_of r.hostings ++ prefix_named (fields_of text)
line_names r text skipped is = sym (ap (λ (ps : List (List ℕ)). prefixes_of r.hostings ++ ps) (skipped_names_none text is) ∙ append-nil (prefixes_of r.hostings))
line_names r text (publisher p) is = sym (ap (λ (fields : List (List ℕ)). prefixes_of r.hostings ++ prefix_named fields) is.split ∙ append-nil (prefixes_of r.hostings))
line_names r text (hosted prefix name a) is =
    map-append {A = Hosting} {B = List ℕ} (λ h. h.prefix) r.hostings (record { prefix = prefix; publisher = place_of name r.publishers; algorithm = a } ∷ [])
    ∙ sym (ap (λ (fields : List (List ℕ)). prefixes_of r.hostings ++ prefix_named fields) is.split)
line_names r text (sited name octets) is = sym (ap (λ (fields : List (List ℕ)). prefixes_of r.hostings ++ prefix_named fields) is.split ∙ append-nil (prefixes_of r.hostings))
line_names r text (opened handle v) is = sym (ap (λ (fields : List (List ℕ)). prefixes_of r.hostings ++ prefix_named fields) is.split ∙ append-nil (prefixes_of r.hostings))

all_named : (r s : Register) (texts : List (List ℕ)) → AddsAll r texts s → prefixes_of s.hostings ≡ prefixes_of r.hostings ++ prefixes_in texts
all_named r s [] h = ap (λ (x : Register). prefixes_of x.hostings) h ∙ sym (append-nil (prefixes_of r.hostings))
all_named r s (text ∷ texts) h =
    all_named h.0 s texts h.2
    ∙ ap (λ (ps : List (List ℕ)). ps ++ prefixes_in texts) (ap (λ (x : Register). prefixes_of x.hostings) h.1.3 ∙ line_names r text h.1.0 h.1.1)
    ∙ append_assoc (prefixes_of r.hostings) (prefix_named (fields_of text)) (prefixes_in texts)

pub prefixes_are : (r : Register) (texts : List (List ℕ)) → IsAccepted texts r → prefixes_in texts ≡ prefixes_of r.hostings
prefixes_are r texts h = sym (all_named empty r texts h)
