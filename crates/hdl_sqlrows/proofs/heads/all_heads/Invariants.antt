use Rattle.std.proofs.Common.{◌≡◌, map, take}
use Rattle.hdl_sqlrows.specs.Shows.{head_of}
use Rattle.hdl_sqlrows.proofs.heads.all_heads.Given as goal

abbrev pub invariant-loop-row : goal.invariant-loop-row
invariant-loop-row l = l.heads.items ≡ map head_of (take l.row-index l.rows)
