use Rattle.std.proofs.Common.{◌≡◌, take, map}
use Rattle.hdl_history.specs.Last.{entries_in}
use Rattle.hdl_history.proofs.find.entries_in.Given as goal

abbrev pub invariant-loop-line : goal.invariant-loop-line
invariant-loop-line l = l.entries.items ≡ entries_in (map (λ line. line.now) (take l.line-index l.lines))
