use Rattle.std.proofs.Common.{List, ℕ, ap, subst, ◌++◌, ◌∙◌, map}
use Rattle.std.specs.List.{AllByRecursion}
use Rattle.std.specs.Str.Lines.{lines}
use Rattle.std.specs.String.{string_bytes}
use Rattle.hdl_rows.specs.Table.{Table}
use Rattle.hdl_tenants.specs.Register.{Row}
use Rattle.hdl_reach.specs.Laws.{IsOnward}
use Rattle.hdl_export.specs.Covers.{places_in, AreLed}
use Rattle.hdl_export.specs.Laws.{IsPublisherExport, HasCover, IsWritten, IsWritableRow, prefixes_for}
use Rattle.hdl_export.specs.Lines.{text_of, value_line}
use Rattle.hdl_export.proofs.ForeignRows.{same_rows}
use Rattle.hdl_export.proofs.Walks.{texts_of}
use Rattle.hdl_export.proofs.Whole.{publisher_is, sound_as}
use Rattle.hdl_export.proofs.writing.export_publisher.Goals as goal

pub returns-clause-export : goal.returns-clause-export
returns-clause-export g c =
    let texts = lines c.args.text.now in
    let name = c.args.publisher.now in
    let given = c.in_default.ensures in
    let t = g.R.Rows.content c.args.rows.now in
    let own = c.in_ok-out.out.items in
    let out = c.put_foreign.new.out.items in
    let first = places_in c.in_ok-cover_of.field-0 in
    let cover = places_in c.in_ok-cover.cover in
    let written = subst (λ (ps : List (List ℕ)). IsWritten texts ps t own) (ap texts_of c.as_slice.ensures.value ∙ c.in_ok-prefixes.ensures) c.in_ok-out.ensures.written in
    let has = subst (λ (octets : List ℕ). HasCover (lines octets) first) c.as_slice-2.ensures.value c.in_ok-cover_of.ensures.covered in
    let onward = subst (λ (x : Table). IsOnward x cover) c.write_unread.ensures.unchanged c.in_ok-cover.ensures.onward in
    let led = subst (λ (x : Table). AreLed x first cover) c.write_unread.ensures.unchanged c.in_ok-cover.ensures.led in
    let same = same_rows (texts_of c.as_slice-3.result.now) (prefixes_for name texts) (g.R.Rows.content c.close.new.rows) t c.as_slice-4.result.now c.in_ok-cover.cover.references.items
    (ap texts_of c.as_slice-3.ensures.value ∙ c.in_ok-prefixes.ensures) (c.close.ensures.unchanged ∙ c.write_unread.ensures.unchanged) c.as_slice-4.ensures.value in
    let put = c.in_ok-put_foreign.ensures.put ∙ ap (λ (rows : List Row). own ++ text_of (map value_line rows)) same in
    let writable = subst (AllByRecursion IsWritableRow) same c.in_ok-put_foreign.ensures.writable in
    sound_as string_bytes (IsPublisherExport texts name t) c.sound.result out c.sound.ensures.same c.sound.ensures.read
    (λ s read. publisher_is c.args.text.now name own out t first cover given.0 s given.1 written has c.in_ok-cover.ensures.grown onward led put writable read)
