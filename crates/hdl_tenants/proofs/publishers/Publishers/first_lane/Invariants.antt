use Rattle.std.proofs.Common.{◌≡◌}
use Rattle.hdl_tenants.specs.Register.{first_lane}
use Rattle.hdl_tenants.specs.Record.{publishers_in}
use Rattle.hdl_tenants.proofs.publishers.Publishers.first_lane.Given as goal

abbrev pub invariant-loop-before : goal.invariant-loop-before
invariant-loop-before l = l.lane ≡ first_lane (publishers_in l.self-inside.by_name.entries) l.before
