-- Grants, one more.
use Rattle.std.proofs.Common.{◌≡◌, ℕ, ◌+◌, ◌<◌, List, [], ◌∷◌, ◌++◌, take, length, get_or, ap, ◌∙◌}
use Rattle.std.proofs.lemmas.List.{map-append}
use Rattle.hdl_value.specs.Refs.{place_of}
use Rattle.hdl_reach.specs.declared.grants.Grant.{Grant}
use Rattle.hdl_reach.specs.Views.{grants_in}
use Rattle.hdl_reach.proofs.Searches.{take_next}

pub granted_next : (gs : List Grant) (i : ℕ) (g : Grant) → i < length gs → g ≡ get_or gs i g → grants_in (take (i + 1) gs) ≡ grants_in (take i gs) ++ (g.mask.0, place_of g.reference) ∷ []
granted_next gs i g low is = ap grants_in (take_next gs i g low is) ∙ map-append (λ (x : Grant). (x.mask.0, place_of x.reference)) (take i gs) (g ∷ [])
