-- The record that a body in JSON means, or the first thing that is wrong with it.
use Rattle.std.specs.Prelude.{◌≡◌, ◌⊎◌, ℕ, ◌+◌, ◌==◌, nat_lt, ◌&&◌, not, Bool, true, false, is_some, if◌then◌else◌, List, [], ◌∷◌, length, codes, Option, Some, None, Result, Ok, Err}
use Rattle.std.specs.List.{list_any}
use Rattle.std.specs.Str.{is_utf8}
use Rattle.serde_json.specs.Data.{Data, Items}
use Rattle.serde_json.specs.Find.{get, as_array, as_object}
use Rattle.serde_json.specs.Read.{read}
use Rattle.hdl_limits.specs.declared.TheConstants.{WRITTEN_MAX}
use Rattle.hdl_value.specs.declared.value.Value.{Value}
use Rattle.hdl_value.specs.Reading.{◌>>=◌}
use Rattle.hdl_rest.specs.declared.fault.EntryFault.{EntryFault}
use Rattle.hdl_rest.specs.declared.fault.RecordFault.{RecordFault}
use Rattle.hdl_rest.specs.declared.fault.RecordFault.TheVariants as fault
use Rattle.hdl_rest.specs.Data.{◌>>>◌, each}
use Rattle.hdl_rest.specs.Entry.{value_in_json}
use Rattle.hdl_rest.specs.declared.shapes.Shape.TheVariants.{Body}
use Rattle.hdl_rest.specs.Shapes.{fits, entry_fits, all_fit}

-- why nothing is read: there was no memory, or what is wrong
abbrev pub IsRecordFault : {A : Type 0} → Result A RecordFault → RecordFault → Type 0
IsRecordFault told e = (e ≡ fault.Memory) ⊎ (told ≡ Err e)

-- a value, or its fault with its place
abbrev pub value_in_record : ℕ → Result Value EntryFault → Result Value RecordFault
value_in_record place (Ok v) = Ok v
value_in_record place (Err e) = Err (fault.Entry place e)

-- the values that these are, counted from a place
abbrev pub values_from : ℕ → List Data → Result (List Value) RecordFault
values_from place [] = Ok []
values_from place (d ∷ ds) =
    value_in_record place (value_in_json d) >>> λ v. (values_from (place + 1) ds >>> λ vs. Ok (v ∷ vs))

-- one of these has this index
abbrev pub has_index : ℕ → List Value → Bool
has_index index vs = list_any (λ v. v.index == index) vs

-- the first value whose index stands behind it again
abbrev pub twice_from : ℕ → List Value → Option ℕ
twice_from place [] = None
twice_from place (v ∷ vs) = if has_index v.index vs then Some place else twice_from (place + 1) vs

abbrev pub distinct_at : Option ℕ → List Value → Result (List Value) RecordFault
distinct_at None vs = Ok vs
distinct_at (Some place) vs = Err (fault.Twice place)

-- these values, of which there is one, and not too many
unfoldable pub entries_in_json : List Data → Result (List Value) RecordFault
entries_in_json ds =
    if length ds == 0 then Err fault.Empty
    else if nat_lt WRITTEN_MAX (length ds) then Err fault.Many
    else (values_from 1 ds >>> λ vs. distinct_at (twice_from 1 vs) vs)

-- the list in a body: it is one, or its member `values` is
abbrev pub listed_in : Data → Option Items
listed_in d = if is_some (as_array d) then as_array d else (get (codes "values") d >>= as_array)

-- the body is one value: an object without such a member
abbrev pub is_single : Data → Bool
is_single d = is_some (as_object d) && not (is_some (get (codes "values") d))

abbrev pub record_by : Option Items → Data → Result (List Value) RecordFault
record_by (Some ds) d = entries_in_json (each ds)
record_by None d = if is_single d then entries_in_json (d ∷ []) else Err fault.Shape

unfoldable pub values_in_json : Data → Result (List Value) RecordFault
values_in_json d = record_by (listed_in d) d

-- the first member that isn't known: of the body, or else of its values
abbrev pub strange_by : Option Items → Data → Option RecordFault
strange_by None d = if entry_fits d then None else Some fault.Strange
strange_by (Some ds) d = if fits Body d then (if all_fit (each ds) then None else Some fault.Strange) else Some fault.Members

abbrev pub strange_in : Data → Option RecordFault
strange_in d = strange_by (listed_in d) d

abbrev pub known_by : Option RecordFault → List Value → Result (List Value) RecordFault
known_by None vs = Ok vs
known_by (Some e) vs = Err e

-- those values, where there is none
unfoldable pub record_in_json : Data → Result (List Value) RecordFault
record_in_json d = values_in_json d >>> known_by (strange_in d)

-- the JSON that a body is, in UTF-8
abbrev pub text_in : List ℕ → Option (List ℕ)
text_in body = if is_utf8 body then Some body else None

abbrev pub json_in_body : List ℕ → Option Data
json_in_body body = text_in body >>= read

abbrev pub record_of : Option Data → Result (List Value) RecordFault
record_of None = Err fault.Json
record_of (Some d) = record_in_json d

-- the record that a body means
unfoldable pub record_in : List ℕ → Result (List Value) RecordFault
record_in body = record_of (json_in_body body)
