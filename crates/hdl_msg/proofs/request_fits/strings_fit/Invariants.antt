use Rattle.std.proofs.Common.{take}
use Rattle.std.specs.List.{AllByRecursion}
use Rattle.hdl_value.specs.Spelling.{IsString}
use Rattle.hdl_msg.proofs.request_fits.strings_fit.Given as goal

abbrev pub invariant-loop-string : goal.invariant-loop-string
invariant-loop-string l = AllByRecursion IsString (take l.string-index l.strings)
