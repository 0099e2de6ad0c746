-- The octets of an outcome: what is owed to the peer of its event.
use Rattle.std.specs.Prelude.{ℕ, List, []}
use Rattle.hdl_events.specs.declared.Outcome.{Outcome}
use Rattle.hdl_events.specs.declared.Outcome.TheVariants.{Reply, Busy, Silent, CloseAfter}

abbrev pub octets_of : Outcome → List ℕ
octets_of (Reply octets) = octets
octets_of (Busy octets) = octets
octets_of Silent = []
octets_of (CloseAfter octets) = octets
