use Rattle.std.proofs.Common.{◌≡◌, take, map}
use Rattle.std.specs.Prelude.{filter}
use Rattle.hdl_history.specs.Last.{names}
use Rattle.hdl_history.proofs.find.named.Given as goal

abbrev pub invariant-loop-line : goal.invariant-loop-line
invariant-loop-line l = map (λ line. line.now) l.found.items ≡ filter (names l.text) (map (λ line. line.now) (take l.line-index l.lines))
