use Rattle.hdl_site.specs.Info.{interface_at}
use Rattle.hdl_site.proofs.Loops.{SoFar}
use Rattle.hdl_site.proofs.reading.interfaces_in.Given as goal

abbrev pub invariant-loop : goal.invariant-loop
invariant-loop l = SoFar interface_at l.count l.counter l.octets l.rest l.interfaces.items
