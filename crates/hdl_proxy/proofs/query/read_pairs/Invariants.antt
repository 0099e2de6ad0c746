use Rattle.std.proofs.Common.{◌≡◌, ◌++◌, map}
use Rattle.form_urlencoded.specs.Parse.{owned_pairs_left}
use Rattle.hdl_proxy.specs.Query.{meant_pair, pairs_of, texts_of}
use Rattle.hdl_proxy.proofs.query.read_pairs.Given as goal

abbrev pub invariant-loop-pair : goal.invariant-loop-pair
invariant-loop-pair l = texts_of l.pairs.items ++ map meant_pair (owned_pairs_left l.pair-iterator) ≡ pairs_of l.query
