use Rattle.std.proofs.Common.{◌≡◌, ◌≤◌, List, [], ◌∷◌, map, take, length, refl, ap, ◌∙◌, rules}
use Rattle.std.specs.Prelude.{codes}
use Rattle.std.proofs.lemmas.List.{take_all}
use Rattle.std.proofs.lemmas.Result.{IfOk-weaker}
use Rattle.serde_json.specs.Data.{Data, array}
use Rattle.serde_json.specs.View.{items_of}
use Rattle.hdl_value.specs.declared.admin.Reference.{Reference}
use Rattle.hdl_value.specs.Refs.{raw, raws}
use Rattle.hdl_proxy.specs.Json.{with_format, reference_json}
use Rattle.hdl_proxy.proofs.json.list_json.Goals as goal

each_raw : (rs : List Reference) → map (λ (r : Reference). reference_json (raw r)) rs ≡ map reference_json (raws rs)
each_raw [] = refl
each_raw (r ∷ rs) = ap (λ (ds : List Data). reference_json (raw r) ∷ ds) (each_raw rs)

pub returns : goal.returns
returns c =
    let references = c.args.references.now in
    let few : length references ≤ c.loop-reference.reference-index = search rules in
    let took : take c.loop-reference.reference-index references ≡ references = take_all _ _ few in
    let all = c.loop-reference.invariant ∙ ap (λ (some : List Reference). map (λ (r : Reference). reference_json (raw r)) some) took ∙ each_raw references in
    let told = c.from.ensures ∙ ap (λ (ds : List Data). array (items_of ds)) all in
    IfOk-weaker c.with_format.result _ _ (λ json same. same ∙ ap (λ (d : Data). with_format (codes "vlist") d) told) c.with_format.ensures
