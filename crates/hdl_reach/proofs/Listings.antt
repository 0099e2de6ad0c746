-- The places that a list holds, as it reads.
use Rattle.std.proofs.Common.{◌≡◌, List, [], ◌∷◌, Some, filter, refl, ap, ◌∙◌}
use Rattle.std.proofs.Common.{map as map_list}
use Rattle.hdl_value.specs.Refs.{listed_places, listed_by, list_read, refers, place, place_of, raws}
use Rattle.hdl_value.specs.declared.admin.Reference.{Reference}
use Rattle.hdl_value.specs.declared.value.Value.{Value}
use Rattle.hdl_reach.specs.Seen.{places}

as_spelt : (rs : List Reference) → places rs ≡ map_list place (raws rs)
as_spelt [] = refl
as_spelt (r ∷ rs) = ap (λ ps. place_of r ∷ ps) (as_spelt rs)

pub as_read : (rs : List Reference) (v : Value) → Some (raws rs) ≡ list_read v → filter refers (places rs) ≡ listed_places v
as_read rs v read = ap (filter refers) (as_spelt rs) ∙ ap listed_by read
