use Rattle.std.proofs.Common.{◌≡◌, map, ◌++◌, take, drop}
use Rattle.hdl_rows.specs.Heads.{head}
use Rattle.hdl_rows.proofs.heads.into_heads.Given as goal

abbrev pub invariant-loop-value : goal.invariant-loop-value
invariant-loop-value l = l.value-items ≡ map head (take l.value-index l.initial.value-items) ++ drop l.value-index l.initial.value-items
