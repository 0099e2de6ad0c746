use Rattle.std.proofs.Common.{◌≡◌, ◌∙◌, ◌++◌, ◌∷◌, sym, ap, drop, lit<}
use Rattle.std.proofs.lemmas.List.{take-append-drop}
use Rattle.std.proofs.lemmas.Str.Pattern.{drop_at_char}
use Rattle.hdl_value_lines.specs.Fields.{colon}
use Rattle.hdl_value_lines.proofs.References.{last_reference}
use Rattle.hdl_value_lines.proofs.keys.read_reference.Goals as goal

pub returns : goal.returns
returns c =
    let found = c.in_ok-handle.ensures.cases in
    let words = c.args.words.now in
    let parts : words ≡ c.in_ok-handle.handle.now ++ colon ∷ c.in_ok-handle.index.now =
    sym (take-append-drop found.0 words) ∙ ap (λ front. front ++ drop found.0 words) (sym found.3)
    ∙ ap (λ back. c.in_ok-handle.handle.now ++ back) (drop_at_char colon words found.0 found.1 found.2.1 (lit< tt) ∙ ap (λ digits. colon ∷ digits) (sym found.4)) in
    record { reference = last_reference words c.in_ok-handle.handle.now c.in_ok-handle.index.now c.in_ok-index_in.field-0 c.reference_named-2.result parts c.in_ok-index_in.ensures.index c.reference_named-2.ensures.reference }
