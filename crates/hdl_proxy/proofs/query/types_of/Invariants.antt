use Rattle.std.proofs.Common.{◌≡◌, take}
use Rattle.hdl_proxy.proofs.Texts.{nows}
use Rattle.hdl_proxy.proofs.query.types_of.Given as goal

abbrev pub invariant-loop-text : goal.invariant-loop-text
invariant-loop-text l = l.types.items ≡ take l.text-index (nows l.text-items)
