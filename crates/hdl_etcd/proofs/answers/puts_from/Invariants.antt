use Rattle.std.proofs.Common.{◌≡◌, ◌++◌, List, Ok, drop, map}
use Rattle.serde_json.specs.View.{view}
use Rattle.hdl_etcd.specs.declared.answers.Pair.{Pair}
use Rattle.hdl_etcd.specs.Answers.{◌>>>◌, puts_from}
use Rattle.hdl_etcd.proofs.answers.puts_from.Given as goal

abbrev pub invariant-loop-json : goal.invariant-loop-json
invariant-loop-json l = puts_from (map view l.list) ≡ (puts_from (map view (drop l.json-index l.list)) >>> λ (pairs : List Pair). Ok (l.pairs.items ++ pairs))
