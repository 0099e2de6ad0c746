use Rattle.std.proofs.Common.{◌≡◌, false, eqb, length, sym, ◌∙◌, rules}
use Rattle.std.proofs.lemmas.List.{length-map}
use Rattle.std.proofs.lemmas.List.Folds.{list_all-map}
use Rattle.hdl_value.specs.declared.references.RawRef.{RawRef}
use Rattle.hdl_value.specs.Refs.{raw}
use Rattle.hdl_value_lines.specs.Fields.{is_word}
use Rattle.hdl_value_lines.proofs.write.have_words.Goals as goal

pub returns-then-not-is_empty : goal.returns-then-not-is_empty
returns-then-not-is_empty c =
    let some : eqb (length c.args.references.now) 0 ≡ false = search rules in
    rw (length-map, some) (c.are_words.ensures ∙ sym (list_all-map (λ (r : RawRef). is_word r.handle) raw c.args.references.now))
