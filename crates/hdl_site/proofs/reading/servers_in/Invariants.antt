use Rattle.hdl_site.specs.Info.{server_at}
use Rattle.hdl_site.proofs.Loops.{SoFar}
use Rattle.hdl_site.proofs.reading.servers_in.Given as goal

abbrev pub invariant-loop : goal.invariant-loop
invariant-loop l = SoFar server_at l.count l.counter l.octets l.rest l.servers.items
