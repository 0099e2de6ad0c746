-- The table as the entries of a map, each a handle with its values.
use Rattle.std.specs.Prelude.{Vec, ℕ, List, [], ◌∷◌, ◌++◌, ◌≡◌, true, map, IsTrue}
use Rattle.std.specs.declared.alloc.Global.{Global}
use Rattle.std.specs.List.{flat_map, AllByRecursion}
use Rattle.std.specs.Ordering.{nat_cmp}
use Rattle.std.specs.FinMap as map
use Rattle.std.specs.FinMap.{is_sorted, put}
use Rattle.std.specs.FinSet as set
use Rattle.hdl_name.specs.Name.{authority, slash}
use Rattle.hdl_value.specs.Place.{Place, handle_cmp}
use Rattle.hdl_value.specs.declared.value.Value.{Value}
use Rattle.hdl_rows.specs.Table.{Table, place, has}

-- a row without where it lies: its handle, and its values
abbrev pub entry_of : Vec ℕ Global × Vec Value Global → List ℕ × List Value
entry_of e = (e.0.items, e.1.items)

abbrev pub entries_of : List (Vec ℕ Global × Vec Value Global) → List (List ℕ × List Value)
entries_of = map entry_of

-- values by their indexes
abbrev pub by_index : List Value → List (ℕ × Value)
by_index = map (λ v. (v.index, v))

-- the values of a handle by their places
abbrev pub by_place : List ℕ × List Value → List (Place × Value)
by_place e = map (λ v. (place e.0 v.index, v)) e.1

abbrev pub table_of : List (List ℕ × List Value) → Table
table_of es = record { handles = set.from_list (map (λ e. e.0) es); values = map.from_entries (flat_map by_place es) }

-- The handles strictly rise by their octets, and the values of each by their indexes.
pub record AreInOrder (es : List (List ℕ × List Value)) : Type 0 where
  pub handles : IsTrue (is_sorted handle_cmp es)
  pub values : AllByRecursion (λ e. IsTrue (is_sorted nat_cmp (by_index e.1))) es

-- values by index, with others put among them one by one, each replacing the one at its index
abbrev pub put_all : List (ℕ × Value) → List Value → List (ℕ × Value)
put_all es [] = es
put_all es (v ∷ vs) = put_all (put nat_cmp v.index v es) vs

-- A handle begins with its authority in canonical form, and a slash.
abbrev pub HasAuthority : List ℕ → Type 0
HasAuthority h = (local : List ℕ) × (h ≡ authority h ++ slash ∷ local)

abbrev pub HaveAuthorities : Table → Type 0
HaveAuthorities t = (h : List ℕ) → has t h ≡ true → HasAuthority h
