-- The items of an array as a list.
use Rattle.std.proofs.Common.{◌≡◌, List, [], ◌∷◌, refl, ap}
use Rattle.serde_json.specs.Data.{Data}
use Rattle.serde_json.specs.View.{items_of}
use Rattle.hdl_etcd.specs.Answers.{each}

pub each_items_of : (ds : List Data) → each (items_of ds) ≡ ds
each_items_of [] = refl
each_items_of (d ∷ ds) = ap (λ (x : List Data). d ∷ x) (each_items_of ds)
