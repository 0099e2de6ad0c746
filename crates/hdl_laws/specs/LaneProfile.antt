-- How the lanes of a publisher speak.
use Rattle.std.specs.Prelude.{ℕ, List, Bool, Option}
use Rattle.hdl_value.specs.declared.wire.Wire.{Wire}

-- by whose layout, and with which site information they answer, and whether they take changes
pub record LaneProfile : Type 0 where
  pub wire : Wire
  pub site : Option (List ℕ)
  pub takes_changes : Bool
