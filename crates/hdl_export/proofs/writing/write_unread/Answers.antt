use Rattle.std.proofs.Common.{◌≡◌, ◌++◌, List, ℕ, ap, ◌∙◌, refl}
use Rattle.std.specs.Prelude.{filter}
use Rattle.std.specs.Str.Lines.{lines}
use Rattle.hdl_export.specs.Lines.{text_of, is_other}
use Rattle.hdl_export.proofs.Walks.{texts_of}
use Rattle.hdl_export.proofs.Whole.{written_is}
use Rattle.hdl_export.proofs.writing.write_unread.Goals as goal

pub returns-clause-written : goal.returns-clause-written
returns-clause-written g c =
    let texts = lines c.args.text.now in
    let prefixes = texts_of c.args.prefixes.now in
    let authorities = texts_of c.in_ok-authorities.authorities.items in
    let front : c.put_others.new.out.items ≡ text_of (filter is_other texts) = c.in_ok-put_others.ensures ∙ ap (λ (none : List ℕ). none ++ text_of (filter is_other texts)) c.new-out.ensures.items in
    let again = rw c.as_slice.ensures.value at c.in_ok-put_rows.ensures.put in
    let each = rw c.as_slice.ensures.value at c.in_ok-put_rows.ensures.writable in
    written_is texts prefixes authorities authorities (g.R.Rows.content c.args.rows.now) c.put_others.new.out.items c.put_rows.new.out.items refl c.in_ok-authorities.ensures front again each
