use Rattle.hdl_proxy.specs.Xml.{StandsFor}
use Rattle.hdl_proxy.proofs.Pieces.{IsReadUpTo}
use Rattle.hdl_proxy.proofs.xml.read_text.Given as goal

abbrev pub invariant-loop : goal.invariant-loop
invariant-loop l = IsReadUpTo StandsFor l.written l.text.items l.rest
