-- The code's grants and masks, as the definitions see them.
use Rattle.std.specs.Prelude.{ℕ, List, map, Option, option_map}
use Rattle.hdl_value.specs.Place.{Place}
use Rattle.hdl_value.specs.Refs.{place_of}
use Rattle.hdl_value.specs.declared.admin.AdminMask.{AdminMask}
use Rattle.hdl_reach.specs.declared.grants.Grant.{Grant}

abbrev pub mask_of : Option AdminMask → Option ℕ
mask_of = option_map (λ m. m.0)

-- mask and place of each
abbrev pub grants_in : List Grant → List (ℕ × Place)
grants_in = map (λ g. (g.mask.0, place_of g.reference))
