use Rattle.std.proofs.Common.{◌≡◌, ◌≤◌, List, length, take, map, ap, ◌∙◌, rules}
use Rattle.std.proofs.lemmas.List.{take_all}
use Rattle.serde_json.specs.Data.{Data, array}
use Rattle.serde_json.specs.View.{items_of}
use Rattle.hdl_etcd.specs.declared.asking.Operation.{Operation}
use Rattle.hdl_etcd.specs.Asking.{operation_json}
use Rattle.hdl_etcd.proofs.asking.operations_json.Goals as goal

pub returns : goal.returns
returns c =
    let operations = c.args.operations.now in
    let few : length operations ≤ c.loop-operation.operation-index = search rules in
    let took : take c.loop-operation.operation-index operations ≡ operations = take_all _ _ few in
    c.from.ensures ∙ ap (λ (ds : List Data). array (items_of ds)) (c.loop-operation.invariant ∙ ap (λ (some : List Operation). map operation_json some) took)
