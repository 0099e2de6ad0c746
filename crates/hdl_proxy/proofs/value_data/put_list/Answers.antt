use Rattle.std.proofs.Common.{◌≡◌, ◌≤◌, ℕ, List, ◌++◌, take, length, sym, ap, ◌∙◌, rules}
use Rattle.std.specs.List.{flat_map}
use Rattle.std.proofs.lemmas.List.{take_all}
use Rattle.std.proofs.lemmas.List.Folds.{flat_map-map}
use Rattle.hdl_value.specs.declared.admin.Reference.{Reference}
use Rattle.hdl_value.specs.Refs.{raw}
use Rattle.hdl_proxy.specs.Pages.{reference_part}
use Rattle.hdl_proxy.proofs.value_data.put_list.Goals as goal

pub returns : goal.returns
returns c =
    let references = c.args.references.now in
    let before = c.args.page.now.octets.items in
    let few : length references ≤ c.loop-reference.reference-index = search rules in
    let took : take c.loop-reference.reference-index references ≡ references = take_all _ _ few in
    c.loop-reference.invariant
    ∙ ap (λ (some : List Reference). before ++ flat_map (λ (r : Reference). reference_part (raw r)) some) took
    ∙ ap (λ (t : List ℕ). before ++ t) (sym (flat_map-map reference_part raw references))
