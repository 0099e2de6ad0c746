use Rattle.hdl_tenants.specs.Record.{publishers_in}
use Rattle.hdl_tenants.proofs.Lanes.{SoFar}
use Rattle.hdl_tenants.proofs.publishers.Publishers.owner.Given as goal

abbrev pub invariant-loop-place : goal.invariant-loop-place
invariant-loop-place l = SoFar (publishers_in l.self-inside.by_name.entries) l.lane l.place l.rest
