use Rattle.std.proofs.Common.{◌≡◌, ◌++◌, List, Ok, drop, map}
use Rattle.serde_json.specs.View.{view}
use Rattle.hdl_etcd.specs.declared.answers.Pair.{Pair}
use Rattle.hdl_etcd.specs.Answers.{◌>>>◌, pairs_from}
use Rattle.hdl_etcd.proofs.answers.pairs_from.Given as goal

abbrev pub invariant-loop-json : goal.invariant-loop-json
invariant-loop-json l = pairs_from (map view l.list) ≡ (pairs_from (map view (drop l.json-index l.list)) >>> λ (pairs : List Pair). Ok (l.pairs.items ++ pairs))
