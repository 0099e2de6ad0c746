-- The moment of a write leaves the indexes as they are.
use Rattle.std.proofs.Common.{◌≡◌, ℕ, List, [], ◌∷◌, map, refl, ap}
use Rattle.hdl_value.specs.declared.value.Value.{Value}
use Rattle.hdl_rows.specs.Table.{indexes}
use Rattle.hdl_ops.specs.Tables.{with_timestamp}

pub indexes_stamped : (moment : ℕ) (vs : List Value) → indexes (map (with_timestamp moment) vs) ≡ indexes vs
indexes_stamped moment [] = refl
indexes_stamped moment (v ∷ vs) = ap (λ is. v.index ∷ is) (indexes_stamped moment vs)
