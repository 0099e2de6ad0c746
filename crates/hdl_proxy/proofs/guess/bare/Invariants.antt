use Rattle.std.proofs.Common.{◌≡◌, length, reverse}
use Rattle.hdl_proxy.specs.Guess.{without_added}
use Rattle.hdl_proxy.proofs.guess.bare.Given as goal

abbrev pub invariant-loop-name : goal.invariant-loop-name
invariant-loop-name l = without_added (reverse l.name) ≡ without_added (reverse l.fn.name)

abbrev pub decreases-loop-name : goal.decreases-loop-name
decreases-loop-name l = length l.name
