-- A text with lines of rows says these rows and nothing else.
use Rattle.std.proofs.Common.{◌≡◌, ℕ, List, [], ◌∷◌, ◌++◌, length, map, refl, sym, ap, subst, ◌∙◌, append_assoc, arith, inl, inr, true, true≢false}
use Rattle.std.specs.Prelude.{codes, filter}
use Rattle.std.specs.List.{AllByRecursion}
use Rattle.std.proofs.lemmas.List.{append-nil}
use Rattle.hex.specs.Hex.{decode_of}
use Rattle.hex.proofs.HexLemmas.{decode_of-encode_lower}
use Rattle.hdl_value.specs.declared.value.Value.{Value}
use Rattle.hdl_value.specs.Spelling.{spelling}
use Rattle.hdl_value.specs.Fault.{Begins}
use Rattle.hdl_tenants.specs.Register.{Register, Row, empty}
use Rattle.hdl_tenants.specs.Lines.{fields_of, IsValueText}
use Rattle.hdl_tenants.specs.Text.{Line, skipped, publisher, hosted, sited, opened, IsLine, IsSkipped, AddsAll, register_after, IsAccepted}
use Rattle.hdl_tenants.proofs.Texts.{one_value, ok_is}
use Rattle.hdl_tenants.proofs.Uniqueness.{one_register}
use Rattle.hdl_export.specs.Lines.{value_line, is_other, IsWritable}
use Rattle.hdl_export.specs.Laws.{IsWritableRow, with_rows, written_lines}
use Rattle.hdl_export.proofs.ValueLines.{digits_of, fields_are}
use Rattle.hdl_export.proofs.Others.{begins, kept}

-- digits of a value say no other
one_value_of : (v w : Value) → IsWritable v → IsValueText (digits_of v) w → w ≡ v
one_value_of v w h text =
    let octets : text.octets ≡ spelling v = ok_is (decode_of (digits_of v)) text.octets (spelling v) text.decoded (decode_of-encode_lower (spelling v) h.octets) in
    let own : Begins (spelling v) v [] = record { fits = h.fits; spelt = sym (append-nil (spelling v)) } in
    (one_value (spelling v) [] v w own (subst (λ (s : List ℕ). Begins s w []) octets text.spelt)).0

same_fields : (a b c x y z : List ℕ) → a ∷ b ∷ c ∷ [] ≡ x ∷ y ∷ z ∷ [] → (b ≡ y) × (c ≡ z)
same_fields a b c x y z e = (cc, cc)

same_word : (a x : List ℕ) (b y : List (List ℕ)) → a ∷ b ≡ x ∷ y → a ≡ x
same_word a x b y e = cc

-- what is skipped is none of the lines of values
skipped_other : (text : List ℕ) → IsSkipped text → is_other text ≡ true
skipped_other [] s = refl
skipped_other (first ∷ rest) (inl none) = absurd (omega (arith, ap length none))
skipped_other (first ∷ rest) (inr at) = let same : first ≡ 35 = cc in rw same refl

-- a line of these fields that says a value says nothing else
abbrev SaysValue : List ℕ → List ℕ → Line → Type 0
SaysValue handle digits skipped = ⊥
SaysValue handle digits (publisher p) = ⊥
SaysValue handle digits (hosted prefix name a) = ⊥
SaysValue handle digits (sited name octets) = ⊥
SaysValue handle digits (opened h v) = (h ≡ handle) × IsValueText digits v

says_value : (text handle digits : List ℕ) → fields_of text ≡ codes "value" ∷ handle ∷ digits ∷ [] → (line : Line) → IsLine text line → SaysValue handle digits line
says_value text handle digits e skipped is = true≢false (sym (skipped_other text is) ∙ begins text _ _ _ e)
says_value text handle digits e (publisher p) is = absurd (omega (arith, ap length (sym is.split ∙ e)))
says_value text handle digits e (hosted prefix name a) is =
    let words : codes "prefix" ≡ codes "value" = same_word _ _ _ _ (sym is.split ∙ e) in
    absurd (omega (arith, ap length words))
says_value text handle digits e (sited name octets) is =
    let words : codes "site" ≡ codes "value" = same_word _ _ _ _ (sym is.split ∙ e) in
    absurd (omega (arith, ap length words))
says_value text handle digits e (opened h v) is =
    let same = same_fields _ _ _ _ _ _ (sym is.split ∙ e) in
    (same.0, subst (λ (d : List ℕ). IsValueText d v) same.1 is.value)

opened_of : (handle : List ℕ) (v : Value) → IsWritable v → (line : Line) → SaysValue handle (digits_of v) line → line ≡ opened handle v
opened_of handle v h skipped is = absurd is
opened_of handle v h (publisher p) is = absurd is
opened_of handle v h (hosted prefix name a) is = absurd is
opened_of handle v h (sited name octets) is = absurd is
opened_of handle v h (opened g w) is = let value = one_value_of v w h is.1 in λ i. opened (is.0 i) (value i)

-- the line of a row says this row alone
says_row : (row : Row) → IsWritableRow row → (line : Line) → IsLine (value_line row) line → line ≡ opened row.0 row.1
says_row row h line is = opened_of row.0 row.1 h.value line (says_value (value_line row) row.0 (digits_of row.1) (fields_are row h) line is)

only : (r s : Register) (rows : List Row) → AllByRecursion IsWritableRow rows → AddsAll r (map value_line rows) s → s ≡ with_rows r (r.opening ++ rows)
only r s [] w h = h ∙ sym (ap (with_rows r) (append-nil r.opening))
only r s (row ∷ rows) w h =
    let next : h.0 ≡ with_rows r (r.opening ++ row ∷ []) = h.1.3 ∙ ap (register_after r) (says_row row w.0 h.1.0 h.1.1) in
    let later = only (with_rows r (r.opening ++ row ∷ [])) s rows w.1 (subst (λ (x : Register). AddsAll x (map value_line rows) s) next h.2) in
    later ∙ ap (with_rows r) (append_assoc r.opening (row ∷ []) rows)

abbrev Parts : Register → List (List ℕ) → List (List ℕ) → Register → Type 0
Parts r texts others t = (s : Register) × AddsAll r texts s × AddsAll s others t

parted : (r t : Register) (texts others : List (List ℕ)) → AddsAll r (texts ++ others) t → Parts r texts others t
parted r t [] others h = (r, refl, h)
parted r t (text ∷ texts) others h = let more = parted h.0 t texts others h.2 in (more.0, (h.0, h.1, more.1), more.2)

pub all_only : (texts : List (List ℕ)) (r s : Register) (rows : List Row) → IsAccepted texts r → AllByRecursion IsWritableRow rows → IsAccepted (written_lines texts rows) s → s ≡ with_rows r rows
all_only texts r s rows h w k =
    let parts = parted empty s (filter is_other texts) (map value_line rows) k in
    let same : parts.0 ≡ with_rows r [] = one_register empty (filter is_other texts) parts.0 (with_rows r []) parts.1 (kept empty r texts h) in
    only (with_rows r []) s rows w (subst (λ (x : Register). AddsAll x (map value_line rows) s) same parts.2)
