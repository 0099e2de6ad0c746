-- Which handles were changed since they were asked for.
use Rattle.std.specs.Prelude.{◌==◌, ◌+◌, ◌*◌, ◌%◌, ◌^◌, ℕ, Bool, false, List, [], ◌∷◌, Option, Some, None, slice_get, slice_index, slice_set}
use Rattle.hdl_routes.specs.declared.changes.ChangeMark.{ChangeMark}

-- handles come to 1,024 places, each of which has one count
abbrev pub place_from : ℕ → List ℕ → ℕ
place_from place [] = place
place_from place (octet ∷ rest) = place_from ((place * 31 + octet) % 1024) rest

abbrev pub bucket_of : List ℕ → ℕ
bucket_of handle = place_from 0 handle

-- how often handles of this place were changed when one of them was asked for
abbrev pub mark_of : List ℕ → List ℕ → ChangeMark
mark_of counts handle = record { place = bucket_of handle; count = slice_index counts (bucket_of handle) }

-- no handle of the mark's place was changed since
abbrev pub is_count : ℕ → Option ℕ → Bool
is_count count None = false
is_count count (Some found) = found == count

abbrev pub is_current : List ℕ → ChangeMark → Bool
is_current counts mark = is_count mark.count (slice_get counts mark.place)

-- a change of this handle is counted
abbrev pub with_change : List ℕ → List ℕ → List ℕ
with_change handle counts = slice_set counts (bucket_of handle) ((slice_index counts (bucket_of handle) + 1) % 2 ^ 64)
