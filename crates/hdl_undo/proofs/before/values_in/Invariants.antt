use Rattle.std.proofs.Common.{take}
use Rattle.hdl_undo.specs.Before.{AreRead}
use Rattle.hdl_undo.proofs.before.values_in.Given as goal

abbrev pub invariant-loop-line : goal.invariant-loop-line
invariant-loop-line l = AreRead (take l.line-index l.lines) l.values.items
