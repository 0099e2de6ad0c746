use Rattle.hdl_proxy.specs.Locations.{IsLocation}
use Rattle.hdl_proxy.proofs.Pieces.{IsReadUpTo}
use Rattle.hdl_proxy.proofs.locations.read_each.Given as goal

abbrev pub invariant-loop : goal.invariant-loop
invariant-loop l = IsReadUpTo (IsLocation l.locatt) l.text l.locations.items l.rest
