use Rattle.std.proofs.Common.{◌≡◌, ◌+◌, List, [], ◌∷◌, ◌++◌, take, map, ap, sym, subst, ◌∙◌, arith}
use Rattle.std.specs.List.{AllZip}
use Rattle.std.proofs.lemmas.List.{take_more, map-append}
use Rattle.std.proofs.lemmas.Slice.Zip.{all_zipped_more}
use Rattle.hdl_value.specs.declared.value.Value.{Value}
use Rattle.serde_json.specs.Data.{Data}
use Rattle.serde_json.specs.View.{view}
use Rattle.serde_json.specs.declared.value.Value as json
use Rattle.hdl_proxy.specs.Json.{IsValueJson}
use Rattle.hdl_proxy.proofs.json.values_json.Goals as goal

pub loop-value-preserved : goal.loop-value-preserved
loop-value-preserved c =
    let values = c.args.values.now in
    let i = c.loop-value.value-index in
    let v = c.value-item.result in
    let before = c.loop-value.list.items in
    let made = c.in_ok-value_json.field-0 in
    let more : take (i + 1) values ≡ take i values ++ v ∷ [] = take_more values i v (omega arith) ∙ ap (λ (x : Value). take i values ++ x ∷ []) (sym c.value-item.is) in
    let pushed : map view c.push.new.self.items ≡ map view before ++ view made ∷ [] = ap (λ (l : List json.Value). map view l) c.in_ok-push.ensures.items ∙ map-append view before (made ∷ []) in
    let both = all_zipped_more IsValueJson (take i values) (map view before) v (view made) c.loop-value.invariant c.in_ok-value_json.ensures in
    subst (λ (ds : List Data). AllZip IsValueJson (take (i + 1) values) ds) (sym pushed)
    (subst (λ (vs : List Value). AllZip IsValueJson vs (map view before ++ view made ∷ [])) (sym more) both)
