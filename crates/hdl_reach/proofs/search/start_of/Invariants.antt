use Rattle.std.proofs.Common.{take}
use Rattle.hdl_rows.specs.Table.{Table}
use Rattle.hdl_reach.specs.Search.{IsFound}
use Rattle.hdl_reach.specs.Views.{grants_in}
use Rattle.hdl_reach.proofs.search.start_of.Given as goal

abbrev pub invariant-loop-grant : goal.invariant-loop-grant
invariant-loop-grant l = (t : Table) → IsFound t (grants_in (take l.grant-index l.grants)) l.found
