use Rattle.std.specs.Str.Lines.{lines}
use Rattle.std.specs.String.{string_bytes}
use Rattle.hdl_export.specs.Laws.{IsExport}
use Rattle.hdl_export.proofs.Whole.{export_is, sound_as}
use Rattle.hdl_export.proofs.writing.export.Goals as goal

pub returns-clause-export : goal.returns-clause-export
returns-clause-export g c =
    let texts = lines c.args.text.now in
    let given = c.in_default.ensures in
    let t = g.R.Rows.content c.args.rows.now in
    let out = c.in_ok-out.out.items in
    let written = rw (c.as_slice.ensures.value, c.in_ok-prefixes.ensures) at c.in_ok-out.ensures.written in
    sound_as string_bytes (IsExport texts t) c.sound.result out c.sound.ensures.same c.sound.ensures.read (λ s read. export_is c.args.text.now t out given.0 s given.1 written read)
