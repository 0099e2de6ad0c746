use Rattle.std.proofs.Common.{◌≡◌, ◌≤◌, ℕ, List, ◌++◌, ◌∷◌, true, Some, Option, take, length, sym, ap, ◌∙◌, rules}
use Rattle.std.specs.Prelude.{codes}
use Rattle.std.specs.List.{flat_map}
use Rattle.std.proofs.lemmas.List.{take_all}
use Rattle.std.proofs.lemmas.List.Folds.{flat_map-map}
use Rattle.hdl_value.specs.declared.references.RawRef.{RawRef}
use Rattle.hdl_value.specs.declared.admin.Reference.{Reference}
use Rattle.hdl_value.specs.Reading.{◌>>=◌}
use Rattle.hdl_value.specs.Refs.{raw, raws, list_read}
use Rattle.hdl_value_lines.specs.Fields.{space}
use Rattle.hdl_value_lines.specs.Data.{reference_text, have_words, list_words}
use Rattle.hdl_value_lines.proofs.write.list_text.Goals as goal

pub returns : goal.returns
returns c =
    let rs = c.in-Some.references.items in
    let read : Some (raws rs) ≡ list_read c.args.value.now = search rules in
    let words : have_words (raws rs) ≡ true = search rules in
    let few : length c.deref-reference-items.result.now ≤ c.loop-reference.reference-index = search rules in
    let took : take c.loop-reference.reference-index c.deref-reference-items.result.now ≡ rs = take_all _ _ few ∙ c.deref-reference-items.ensures.value in
    let all : c.loop-reference.text.items ≡ codes "LIST" ++ flat_map (λ (r : Reference). space ∷ reference_text (raw r)) rs = c.loop-reference.invariant ∙ ap (λ (some : List Reference). codes "LIST" ++ flat_map (λ (r : Reference). space ∷ reference_text (raw r)) some) took in
    let text : c.loop-reference.text.items ≡ codes "LIST" ++ flat_map (λ (r : RawRef). space ∷ reference_text r) (raws rs) = all ∙ ap (λ (t : List ℕ). codes "LIST" ++ t) (sym (flat_map-map (λ (r : RawRef). space ∷ reference_text r) raw rs)) in
    let said : Some c.loop-reference.text.items ≡ list_words (raws rs) = rw words (ap Some text) in
    said ∙ ap (λ (o : Option (List RawRef)). o >>= list_words) read
