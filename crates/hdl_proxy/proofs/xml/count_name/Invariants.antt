use Rattle.std.proofs.Common.{take}
use Rattle.std.specs.List.{AllPass}
use Rattle.hdl_proxy.specs.Xml.{is_in_name}
use Rattle.hdl_proxy.proofs.xml.count_name.Given as goal

abbrev pub invariant-loop-count : goal.invariant-loop-count
invariant-loop-count l = AllPass is_in_name (take l.count l.text)
