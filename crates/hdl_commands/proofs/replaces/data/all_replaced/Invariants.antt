use Rattle.std.proofs.Common.{◌≡◌, ◌++◌, drop}
use Rattle.hdl_commands.specs.Replace.{all_replaced}
use Rattle.hdl_commands.proofs.replaces.data.all_replaced.Given as goal

abbrev pub invariant-loop-value : goal.invariant-loop-value
invariant-loop-value l = l.all.items ++ all_replaced l.old l.new (drop l.value-index l.there) ≡ all_replaced l.old l.new l.there
