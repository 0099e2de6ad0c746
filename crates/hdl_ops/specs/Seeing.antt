-- The values that are read of a handle, by their heads.
use Rattle.std.specs.Prelude.{◌≡◌, ◌<◌, ◌+◌, ℕ, List, [], ◌∷◌, take, sum_by, Option, Some, None, ◌⊎◌}
use Rattle.std.specs.List.{flat_map}
use Rattle.hdl_value.specs.declared.value.Value.{Value}
use Rattle.hdl_rows.specs.declared.reads.TheConstants.{CALL_OCTETS}
use Rattle.hdl_rows.specs.Reads.{values_octets}
use Rattle.hdl_rows.specs.Table.{Table, place, at}
use Rattle.hdl_ops.specs.declared.seeing.TheConstants.{READ_MAX}

abbrev pub one_or_none : Option Value → List Value
one_or_none None = []
one_or_none (Some v) = v ∷ []

-- what stands at the index of a head
abbrev pub found_at : Table → List ℕ → Value → List Value
found_at t h v = one_or_none (at t (place h v.index))

abbrev pub whole_of : Table → List ℕ → List Value → List Value
whole_of t h heads = flat_map (found_at t h) heads

-- a call for each head, and the value that stands at its index
abbrev pub cost_of_reading : Table → List ℕ → List Value → ℕ
cost_of_reading t h heads = sum_by (λ v. CALL_OCTETS + values_octets (found_at t h v)) heads

-- all of them, or so many that no message takes them
abbrev pub IsEnough : Table → List ℕ → List Value → List Value → Type 0
IsEnough t h heads some = (some ≡ whole_of t h heads) ⊎ ((k : ℕ) × (some ≡ whole_of t h (take k heads)) × (READ_MAX < cost_of_reading t h (take k heads)))
