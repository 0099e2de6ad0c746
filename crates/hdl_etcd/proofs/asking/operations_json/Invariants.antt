use Rattle.std.proofs.Common.{◌≡◌, take, map}
use Rattle.serde_json.specs.View.{view}
use Rattle.hdl_etcd.specs.Asking.{operation_json}
use Rattle.hdl_etcd.proofs.asking.operations_json.Given as goal

abbrev pub invariant-loop-operation : goal.invariant-loop-operation
invariant-loop-operation l = map view l.list.items ≡ map operation_json (take l.operation-index l.operations)
