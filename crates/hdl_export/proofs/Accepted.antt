-- Rows that follow a register are accepted, one line after another.
use Rattle.std.proofs.Common.{◌≡◌, ◌≢◌, ◌≤◌, ◌+◌, ℕ, true, cond, List, [], ◌∷◌, ◌++◌, length, map, refl, sym, ap, subst, ◌∙◌, append_assoc, arith, Contains}
use Rattle.std.specs.Prelude.{filter, All, AllPairs}
use Rattle.std.specs.List.{AllByRecursion}
use Rattle.std.specs.Str.{bytes_eq}
use Rattle.std.proofs.lemmas.List.{map-append, append-nil, length-append, get_or_append_left}
use Rattle.std.proofs.Math.Seq.{get_or-append_seam}
use Rattle.std.proofs.lemmas.List.Sums.{sum_by-append, sum_by-cons}
use Rattle.std.proofs.lemmas.Slice.Eq.{bytes_eq-Decides}
use Rattle.hdl_name.specs.Name.{canonical}
use Rattle.hdl_value.specs.Place.{Place}
use Rattle.hdl_tenants.specs.Register.{Register, Row, IsRegister, IsOpening, place, value_count, empty}
use Rattle.hdl_tenants.specs.Text.{opened, IsKnownRow, AddsAll, IsAccepted}
use Rattle.hdl_export.specs.Lines.{value_line, is_other}
use Rattle.hdl_export.specs.Laws.{IsWritableRow, with_rows, written_lines}
use Rattle.hdl_export.proofs.ValueLines.{line_says}
use Rattle.hdl_export.proofs.Others.{kept}

pub joined : (r s t : Register) (texts others : List (List ℕ)) → AddsAll r texts s → AddsAll s others t → AddsAll r (texts ++ others) t
joined r s t [] others h k = subst (λ (x : Register). AddsAll x others t) h k
joined r s t (text ∷ texts) others h k = (h.0, h.1, joined h.0 s t texts others h.2 k)

-- ---- what stands behind others in a list

once_of : {A : Type 0} (front : List A) (x : A) (back : List A) → AllPairs (λ (a b : A). a ≢ b) (front ++ x ∷ back) → Contains front x → ⊥
once_of front x back distinct there =
    distinct there.0 (length front) x there.1 (omega (arith, length-append front (x ∷ back)))
    (get_or_append_left front (x ∷ back) x there.0 there.1 ∙ there.2 ∙ sym (get_or-append_seam front x back x))

holds_at : {A : Type 0} (P : A → Type 0) (front : List A) (x : A) (back : List A) → All P (front ++ x ∷ back) → P x
holds_at P front x back all = subst P (get_or-append_seam front x back x) (all (length front) x (omega (arith, length-append front (x ∷ back))))

one_more : (handle : List ℕ) (front : List Row) (row : Row) (back : List Row) → bytes_eq (canonical row.0) handle ≡ true → value_count handle front + 1 ≤ value_count handle (front ++ row ∷ back)
one_more handle front row back same =
    let f : Row → ℕ = λ (r : Row). cond (bytes_eq (canonical r.0) handle) 1 0 in
    let one : f row ≡ 1 = rw same refl in
    omega (arith, sum_by-append f front (row ∷ back), sum_by-cons f row back, one)

known_at : (r : Register) (row : Row) (rows : List Row) → IsRegister (with_rows r (r.opening ++ row ∷ rows)) → IsKnownRow r row
known_at r row rows is = record {
  hosted = (holds_at (IsOpening r.hostings) r.opening row rows is.opening).hosted;
  once = once_of (map place r.opening) (place row) (map place rows) (subst (λ (ps : List Place). AllPairs (λ (p q : Place). p ≢ q) ps) (map-append {A = Row} {B = Place} place r.opening (row ∷ rows)) is.places);
  room = omega (arith, is.few (canonical row.0), one_more (canonical row.0) r.opening row rows ((bytes_eq-Decides (canonical row.0) (canonical row.0)).1 refl));
}

pub follow : (r : Register) (rows : List Row) → AllByRecursion IsWritableRow rows → IsRegister (with_rows r (r.opening ++ rows)) → AddsAll r (map value_line rows) (with_rows r (r.opening ++ rows))
follow r [] w is = ap (with_rows r) (append-nil r.opening)
follow r (row ∷ rows) w is =
    let s : Register = with_rows r (r.opening ++ row ∷ []) in
    let shape : (r.opening ++ row ∷ []) ++ rows ≡ r.opening ++ row ∷ rows = append_assoc r.opening (row ∷ []) rows in
    let first = holds_at (IsOpening r.hostings) r.opening row rows is.opening in
    let later = follow s rows w.1 (subst (λ (all : List Row). IsRegister (with_rows r all)) (sym shape) is) in (
      s,
      (opened row.0 row.1, line_says row w.0 first.handle first.sound, known_at r row rows is, refl),
      subst (λ (all : List Row). AddsAll s (map value_line rows) (with_rows r all)) shape later,
    )

pub all_accepted : (texts : List (List ℕ)) (r : Register) (rows : List Row) → IsAccepted texts r → AllByRecursion IsWritableRow rows → IsRegister (with_rows r rows) → IsAccepted (written_lines texts rows) (with_rows r rows)
all_accepted texts r rows h w is =
    joined empty (with_rows r []) (with_rows r rows) (filter is_other texts) (map value_line rows) (kept empty r texts h) (follow (with_rows r []) rows w is)
