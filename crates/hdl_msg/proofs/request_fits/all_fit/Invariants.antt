use Rattle.std.proofs.Common.{take}
use Rattle.std.specs.List.{AllByRecursion}
use Rattle.hdl_value.specs.Spelling.{Fits}
use Rattle.hdl_msg.proofs.request_fits.all_fit.Given as goal

abbrev pub invariant-loop-value : goal.invariant-loop-value
invariant-loop-value l = AllByRecursion Fits (take l.value-index l.values)
