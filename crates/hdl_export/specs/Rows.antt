-- Which rows of a table are written, and in which order.
use Rattle.std.specs.Prelude.{ℕ, Bool, ◌&&◌, List, [], map, option_to_list, if◌then◌else◌}
use Rattle.std.specs.List.{flat_map, list_any, AllByRecursion}
use Rattle.std.specs.Str.{bytes_eq}
use Rattle.hdl_name.specs.Name.{canonical, prefix}
use Rattle.hdl_value.specs.declared.value.Value.{Value}
use Rattle.hdl_value.specs.Place.{Place}
use Rattle.hdl_rows.specs.Table.{Table, at, values_of, names_of}
use Rattle.hdl_tenants.specs.Register.{Row}
use Rattle.hdl_export.specs.Lines.{is_expressible, value_line, with_line_end, IsWritable}

-- the prefix is one of these
abbrev pub is_among : List ℕ → List (List ℕ) → Bool
is_among prefix prefixes = list_any (λ p. bytes_eq prefix p) prefixes

-- the handle has one of these prefixes, and a line can name it
abbrev pub is_written : List (List ℕ) → List ℕ → Bool
is_written prefixes handle = is_expressible handle && is_among (prefix handle) prefixes

-- the values of a handle that are written, by rising index
abbrev pub values_at : List (List ℕ) → Table → List ℕ → List Value
values_at prefixes t handle = if is_written prefixes handle then values_of t (canonical handle) else []

-- the rows of a handle
abbrev pub rows_at : List (List ℕ) → Table → List ℕ → List Row
rows_at prefixes t handle = map (λ v. (handle, v)) (values_at prefixes t handle)

-- the rows of the handles of an authority, by rising handle
abbrev pub rows_under : List (List ℕ) → Table → List ℕ → List Row
rows_under prefixes t authority = flat_map (rows_at prefixes t) (names_of t authority)

-- the rows of the table under these authorities, one authority after another
abbrev pub rows_in : List (List ℕ) → List (List ℕ) → Table → List Row
rows_in prefixes authorities t = flat_map (rows_under prefixes t) authorities

-- the row at a place, if a value stands there and the prefix is none of these
abbrev pub foreign_at : List (List ℕ) → Table → Place → List Row
foreign_at prefixes t p = if is_among (prefix p.handle) prefixes then [] else map (λ v. (p.handle, v)) (option_to_list (at t p))

-- the rows at these places, whose prefix is none of these
abbrev pub foreign_rows : List (List ℕ) → Table → List Place → List Row
foreign_rows prefixes t places = flat_map (foreign_at prefixes t) places

-- ---- the same as octets

abbrev pub line_text : List ℕ → Value → List ℕ
line_text handle v = with_line_end (value_line (handle, v))

abbrev pub handle_text : List (List ℕ) → Table → List ℕ → List ℕ
handle_text prefixes t handle = flat_map (line_text handle) (values_at prefixes t handle)

abbrev pub authority_text : List (List ℕ) → Table → List ℕ → List ℕ
authority_text prefixes t authority = flat_map (handle_text prefixes t) (names_of t authority)

-- the values that are written of a handle, and of the handles of an authority, are octets
abbrev pub AreWritable : List (List ℕ) → Table → List ℕ → Type 0
AreWritable prefixes t handle = AllByRecursion IsWritable (values_at prefixes t handle)

abbrev pub AreWritableUnder : List (List ℕ) → Table → List ℕ → Type 0
AreWritableUnder prefixes t authority = AllByRecursion (AreWritable prefixes t) (names_of t authority)
