use Rattle.std.proofs.Common.{◌≡◌, drop}
use Rattle.hdl_proxy.specs.Query.{texts_of}
use Rattle.hdl_rest.specs.Words.{are_known}
use Rattle.hdl_rest.proofs.words.are_known.Given as goal

abbrev pub invariant-loop-pair : goal.invariant-loop-pair
invariant-loop-pair l = are_known l.method (texts_of (drop l.pair-index l.pairs)) ≡ are_known l.method (texts_of l.pairs)
