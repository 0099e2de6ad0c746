use Rattle.hdl_value.proofs.Places.{place_total, place_antisymmetric}
use Rattle.hdl_value.proofs.laws.places_are_ordered.Goals as goal

pub returns-clause-total : goal.returns-clause-total
returns-clause-total c = place_total

pub returns-clause-antisymmetric : goal.returns-clause-antisymmetric
returns-clause-antisymmetric c = place_antisymmetric
