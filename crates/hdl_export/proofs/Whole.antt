-- What is written of a table is the text of its rows, and reading it gives these.
use Rattle.std.proofs.Common.{◌≡◌, ℕ, Bool, true, false, cond, List, [], ◌∷◌, ◌++◌, map, refl, sym, ap, subst, append_assoc, ◌∙◌}
use Rattle.std.specs.Prelude.{filter, codes, IsTrue, Result, Ok, Err, IfOk, OnOk}
use Rattle.std.specs.List.{flat_map, AllByRecursion}
use Rattle.std.specs.Str.Lines.{lines}
use Rattle.std.proofs.lemmas.Bool.{and_parts}
use Rattle.std.proofs.lemmas.List.{map-append}
use Rattle.std.proofs.lemmas.Grind.{flat_map-append}
use Rattle.hdl_name.specs.Name.{canonical, prefix}
use Rattle.hdl_value.specs.declared.value.Value.{Value}
use Rattle.hdl_value.specs.Place.{Place}
use Rattle.hdl_rows.specs.Table.{Table, names_of, values_of}
use Rattle.hdl_reach.specs.Laws.{IsOnward}
use Rattle.hdl_laws.specs.Isolation.{Covers, EachCovered}
use Rattle.hdl_tenants.specs.Register.{Register, Row, prefixes_of}
use Rattle.hdl_tenants.specs.Text.{IsAccepted}
use Rattle.hdl_export.specs.Lines.{Lacks, is_expressible, value_line, with_line_end, text_of, is_other, IsWritable}
use Rattle.hdl_export.specs.Prefixes.{AreAmong}
use Rattle.hdl_export.specs.Covers.{AreReferred, AreLed}
use Rattle.hdl_export.specs.Rows.{is_among, is_written, values_at, rows_at, rows_under, rows_in, foreign_rows, line_text, handle_text, authority_text, AreWritable, AreWritableUnder}
use Rattle.hdl_export.specs.Laws.{IsWritableRow, with_rows, written_lines, prefixes_in, prefixes_for, IsWritten, IsExport, HasCover, IsPublisherExport}
use Rattle.hdl_export.proofs.LinesRead.{all_read}
use Rattle.hdl_export.proofs.ValueLines.{line_lacks_feed}
use Rattle.hdl_export.proofs.Only.{all_only}
use Rattle.hdl_export.proofs.Feeds.{lines_lack, all_filtered, all_joined}
use Rattle.hdl_export.proofs.Hosted.{prefixes_are}
use Rattle.hdl_export.proofs.Covered.{covered_by_more}

abbrev rows_text : List Row → List ℕ
rows_text rows = text_of (map value_line rows)

rows_text-append : (xs ys : List Row) → rows_text (xs ++ ys) ≡ rows_text xs ++ rows_text ys
rows_text-append xs ys = ap text_of (map-append {A = Row} {B = List ℕ} value_line xs ys) ∙ flat_map-append with_line_end (map value_line xs) (map value_line ys)

texts_flat : {X : Type 0} (f : X → List ℕ) (g : X → List Row) → ((x : X) → f x ≡ rows_text (g x)) → (xs : List X) → flat_map f xs ≡ rows_text (flat_map g xs)
texts_flat f g e [] = refl
texts_flat f g e (x ∷ xs) = rw (e x, texts_flat f g e xs) (sym (rows_text-append (g x) (flat_map g xs)))

all_flat : {X Y : Type 0} (P : Y → Type 0) (Q : X → Type 0) (g : X → List Y) → ((x : X) → Q x → AllByRecursion P (g x)) → (xs : List X) → AllByRecursion Q xs → AllByRecursion P (flat_map g xs)
all_flat P Q g e [] h = tt
all_flat P Q g e (x ∷ xs) h = all_joined P (g x) (flat_map g xs) (e x h.0) (all_flat P Q g e xs h.1)

module _ (prefixes : List (List ℕ)) (t : Table) where
  values_text : (handle : List ℕ) (vs : List Value) → flat_map (line_text handle) vs ≡ rows_text (map (λ v. (handle, v)) vs)
  values_text handle [] = refl
  values_text handle (v ∷ vs) = ap (λ (more : List ℕ). line_text handle v ++ more) (values_text handle vs)

  under : (authority : List ℕ) → authority_text prefixes t authority ≡ rows_text (rows_under prefixes t authority)
  under authority = texts_flat (handle_text prefixes t) (rows_at prefixes t) (λ h. values_text h (values_at prefixes t h)) (names_of t authority)

  pub rows_texts : (authorities : List (List ℕ)) → flat_map (authority_text prefixes t) authorities ≡ text_of (map value_line (rows_in prefixes authorities t))
  rows_texts authorities = texts_flat (authority_text prefixes t) (rows_under prefixes t) under authorities

  values_writable : (handle : List ℕ) → IsTrue (is_expressible handle) → (vs : List Value) → AllByRecursion IsWritable vs → AllByRecursion IsWritableRow (map (λ v. (handle, v)) vs)
  values_writable handle s [] h = tt
  values_writable handle s (v ∷ vs) h = (record { handle = s; value = h.0 }, values_writable handle s vs h.1)

  handle_writable : (handle : List ℕ) → AreWritable prefixes t handle → AllByRecursion IsWritableRow (rows_at prefixes t handle)
  handle_writable handle h = by (is_written prefixes handle) refl h
    where
      by : (b : Bool) → is_written prefixes handle ≡ b → AllByRecursion IsWritable (cond b (values_of t (canonical handle)) []) → AllByRecursion IsWritableRow (map (λ v. (handle, v)) (cond b (values_of t (canonical handle)) []))
      by true e k = values_writable handle (and_parts (is_expressible handle) (is_among (prefix handle) prefixes) e).0 (values_of t (canonical handle)) k
      by false e k = tt

  under_writable : (authority : List ℕ) → AreWritableUnder prefixes t authority → AllByRecursion IsWritableRow (rows_under prefixes t authority)
  under_writable authority h = all_flat IsWritableRow (AreWritable prefixes t) (rows_at prefixes t) handle_writable (names_of t authority) h

  pub rows_writable : (authorities : List (List ℕ)) → AllByRecursion (AreWritableUnder prefixes t) authorities → AllByRecursion IsWritableRow (rows_in prefixes authorities t)
  rows_writable authorities h = all_flat IsWritableRow (AreWritableUnder prefixes t) (rows_under prefixes t) under_writable authorities h

-- what stands behind the other lines
pub behind : (texts : List (List ℕ)) (rows : List Row) → text_of (filter is_other texts) ++ rows_text rows ≡ text_of (written_lines texts rows)
behind texts rows = sym (flat_map-append with_line_end (filter is_other texts) (map value_line rows))

-- what is written, from what each part wrote
pub written_is : (texts prefixes authorities given : List (List ℕ)) (t : Table) (front out : List ℕ) → given ≡ authorities → AreAmong (codes "0.na" ∷ prefixes) authorities
    → front ≡ text_of (filter is_other texts) → out ≡ front ++ flat_map (authority_text prefixes t) given → AllByRecursion (AreWritableUnder prefixes t) given → IsWritten texts prefixes t out
written_is texts prefixes authorities given t front out q all f e h =
    let rows = rows_in prefixes authorities t in
    let own : front ++ flat_map (authority_text prefixes t) given ≡ text_of (filter is_other texts) ++ flat_map (authority_text prefixes t) authorities = rw (f, q) refl in
    record {
      authorities = authorities;
      all = all;
      text = e ∙ own ∙ ap (λ (more : List ℕ). text_of (filter is_other texts) ++ more) (rows_texts prefixes t authorities) ∙ behind texts rows;
      rows = rows_writable prefixes t authorities (subst (λ (all : List (List ℕ)). AllByRecursion (AreWritableUnder prefixes t) all) q h);
    }

rows_lack : (rows : List Row) → AllByRecursion IsWritableRow rows → AllByRecursion (Lacks 10) (map value_line rows)
rows_lack [] h = tt
rows_lack (row ∷ rows) h = (line_lacks_feed row h.0, rows_lack rows h.1)

-- what is read of the lines that were written
read_back : (text out : List ℕ) (r s : Register) (rows : List Row) → IsAccepted (lines text) r → AllByRecursion IsWritableRow rows → out ≡ text_of (written_lines (lines text) rows) → IsAccepted (lines out) s → s ≡ with_rows r rows
read_back text out r s rows h w e k =
    let texts = lines text in
    let lack = all_joined (Lacks 10) (filter is_other texts) (map value_line rows) (all_filtered (Lacks 10) is_other texts (lines_lack text)) (rows_lack rows w) in
    let read : lines out ≡ written_lines texts rows = ap lines e ∙ all_read (written_lines texts rows) lack in
    all_only texts r s rows h w (subst (λ (ls : List (List ℕ)). IsAccepted ls s) read k)

pub export_is : (text : List ℕ) (t : Table) (out : List ℕ) (r s : Register) → IsAccepted (lines text) r → IsWritten (lines text) (prefixes_in (lines text)) t out → IsAccepted (lines out) s → IsExport (lines text) t out
export_is text t out r s h w k =
    let texts = lines text in
    let rows = rows_in (prefixes_in texts) w.authorities t in
    let same : s ≡ with_rows r rows = read_back text out r s rows h w.rows w.text k in
    let prefixes : prefixes_in texts ≡ prefixes_of r.hostings = prefixes_are r texts h in
    record {
      register = r;
      given = h;
      authorities = w.authorities;
      all = subst (λ (ps : List (List ℕ)). AreAmong (codes "0.na" ∷ ps) w.authorities) prefixes w.all;
      written = subst (λ (ps : List (List ℕ)). IsAccepted (lines out) (with_rows r (rows_in ps w.authorities t))) prefixes (subst (λ (x : Register). IsAccepted (lines out) x) same k);
    }

-- what holds of octets that a text has holds of the text
pub sound_as : {X E : Type 0} (view : X → List ℕ) (P : List ℕ → Type 0) (result : Result X E) (out : List ℕ) → IfOk result (λ text. view text ≡ out) → OnOk result ((r : Register) × IsAccepted (lines out) r)
    → ((r : Register) → IsAccepted (lines out) r → P out) → IfOk result (λ text. P (view text))
sound_as view P (Ok text) out same read f = subst P (sym same) (f read.0 read.1)
sound_as view P (Err e) out same read f = tt

-- ---- one publisher

-- the lines of more rows, behind a text
more_rows : (texts : List (List ℕ)) (rows more : List Row) → text_of (written_lines texts rows) ++ text_of (map value_line more) ≡ text_of (written_lines texts (rows ++ more))
more_rows texts rows more =
    sym (flat_map-append with_line_end (written_lines texts rows) (map value_line more))
    ∙ ap text_of (append_assoc (filter is_other texts) (map value_line rows) (map value_line more) ∙ ap (λ (ls : List (List ℕ)). filter is_other texts ++ ls) (sym (map-append {A = Row} {B = List ℕ} value_line rows more)))

pub publisher_is : (text name own out : List ℕ) (t : Table) (first C : List Place) (r s : Register) → IsAccepted (lines text) r → IsWritten (lines text) (prefixes_for name (lines text)) t own
    → HasCover (lines own) first → Covers C first → IsOnward t C → AreLed t first C → out ≡ own ++ text_of (map value_line (foreign_rows (prefixes_for name (lines text)) t C))
    → AllByRecursion IsWritableRow (foreign_rows (prefixes_for name (lines text)) t C) → IsAccepted (lines out) s → IsPublisherExport (lines text) name t out
publisher_is text name own out t first C r s h w has wider onward led e more k =
    let texts = lines text in
    let rows = rows_in (prefixes_for name texts) w.authorities t in
    let foreign = foreign_rows (prefixes_for name texts) t C in
    let opened : has.register ≡ with_rows r rows = read_back text own r has.register rows h w.rows w.text has.read in
    let covered : EachCovered first (map (λ (row : Row). row.1) rows) = subst (λ (x : Register). EachCovered first (map (λ (row : Row). row.1) x.opening)) opened has.covered in
    let referred : AreReferred (map (λ (row : Row). row.1) rows) first = subst (λ (x : Register). AreReferred (map (λ (row : Row). row.1) x.opening) first) opened has.referred in
    let shape : out ≡ text_of (written_lines texts (rows ++ foreign)) = e ∙ ap (λ (octets : List ℕ). octets ++ text_of (map value_line foreign)) w.text ∙ more_rows texts rows foreign in
    let same : s ≡ with_rows r (rows ++ foreign) = read_back text out r s (rows ++ foreign) h (all_joined IsWritableRow rows foreign w.rows more) shape k in
    record {
      register = r;
      given = h;
      authorities = w.authorities;
      all = w.all;
      cover = C;
      rows = covered_by_more first C (map (λ (row : Row). row.1) rows) wider covered;
      onward = onward;
      least = λ other each closed p here. led p here other (referred other each) closed;
      written = subst (λ (x : Register). IsAccepted (lines out) x) same k;
    }
