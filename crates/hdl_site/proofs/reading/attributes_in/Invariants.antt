use Rattle.hdl_site.specs.Info.{attribute_at}
use Rattle.hdl_site.proofs.Loops.{SoFar}
use Rattle.hdl_site.proofs.reading.attributes_in.Given as goal

abbrev pub invariant-loop : goal.invariant-loop
invariant-loop l = SoFar attribute_at l.count l.counter l.octets l.rest l.attributes.items
