use Rattle.hdl_proxy.specs.Xml.{IsAttribute}
use Rattle.hdl_proxy.proofs.Pieces.{IsReadUpTo}
use Rattle.hdl_proxy.proofs.xml.read_attributes.Given as goal

abbrev pub invariant-loop : goal.invariant-loop
invariant-loop l = IsReadUpTo IsAttribute l.text l.attributes.items l.rest
