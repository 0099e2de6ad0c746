use Rattle.std.proofs.Common.{take}
use Rattle.std.specs.List.{AllPass}
use Rattle.hdl_proxy.specs.Xml.{is_blank}
use Rattle.hdl_proxy.proofs.xml.count_blank.Given as goal

abbrev pub invariant-loop-count : goal.invariant-loop-count
invariant-loop-count l = AllPass is_blank (take l.count l.text)
