use Rattle.std.proofs.Common.{◌≡◌, take, map}
use Rattle.hdl_rows.specs.Heads.{head}
use Rattle.hdl_rows.proofs.heads.heads_of.Given as goal

abbrev pub invariant-loop-value : goal.invariant-loop-value
invariant-loop-value l = l.heads.items ≡ map head (take l.value-index l.values)
