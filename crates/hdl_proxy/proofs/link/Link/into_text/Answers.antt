use Rattle.hdl_proxy.proofs.Located.{link_graphic}
use Rattle.hdl_proxy.proofs.link.Link.into_text.Goals as goal

pub returns-clause-graphic : goal.returns-clause-graphic
returns-clause-graphic c = link_graphic _ c.self.invariant
