use Rattle.std.proofs.Common.{take}
use Rattle.std.specs.List.{AllByRecursion}
use Rattle.hdl_value.specs.Spelling.{RefFits}
use Rattle.hdl_value.proofs.fits.refs_fit.Given as goal

abbrev pub invariant-loop-r : goal.invariant-loop-r
invariant-loop-r l = AllByRecursion RefFits (take l.r-index l.refs)
