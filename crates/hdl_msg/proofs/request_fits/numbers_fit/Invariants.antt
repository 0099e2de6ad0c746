use Rattle.std.proofs.Common.{take}
use Rattle.std.specs.List.{AllByRecursion}
use Rattle.hdl_msg.specs.Message.{IsNumber}
use Rattle.hdl_msg.proofs.request_fits.numbers_fit.Given as goal

abbrev pub invariant-loop-number : goal.invariant-loop-number
invariant-loop-number l = AllByRecursion IsNumber (take l.number-index l.numbers)
