use Rattle.std.proofs.Common.{take, option_copied}
use Rattle.hdl_proxy.specs.Choice.{IsFirstOf}
use Rattle.hdl_proxy.proofs.choice.first_of.Given as goal

abbrev pub invariant-loop-value : goal.invariant-loop-value
invariant-loop-value l = IsFirstOf l.kind (take l.value-index l.values) (option_copied l.chosen)
