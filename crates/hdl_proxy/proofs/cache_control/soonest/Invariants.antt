use Rattle.std.proofs.Common.{take, option_copied}
use Rattle.hdl_proxy.specs.CacheControl.{IsSoonest}
use Rattle.hdl_proxy.proofs.cache_control.soonest.Given as goal

abbrev pub invariant-loop-value : goal.invariant-loop-value
invariant-loop-value l = IsSoonest (take l.value-index l.values) (option_copied l.chosen)
