-- The table that the rows of `handles` and `entries` are.
use Rattle.std.specs.Prelude.{◌≡◌, ◌≤◌, ℕ, pos, negsuc, Bool, true, false, [], ◌∷◌, List, map, filter, length, unwrap_or}
use Rattle.std.specs.List.{AllByRecursion}
use Rattle.std.specs.Int.{w64, from_be_bytes}
use Rattle.std.specs.FinMap as map
use Rattle.std.specs.FinSet as set
use Rattle.sqlite_value.specs.declared.value.Value.{Value as Cell}
use Rattle.sqlite_value.specs.declared.value.Value.TheVariants.{Null, Int, Real, Text, Blob}
use Rattle.sqlite_value.specs.Order.{Row, bytes, column}
use Rattle.sqlite_trees.specs.Tree.{Trees, rowid, has_rowid}
use Rattle.sqlite_rules.specs.Edit.{id_in}
use Rattle.sqlite_trees.specs.declared.memory.MemStore.{MemStore}
use Rattle.sqlite_schema.specs.declared.schema.Schema.{Schema}
use Rattle.sqlite.specs.Effect.{Database}
use Rattle.sqlite.specs.State.{State}
use Rattle.sqlite.specs.Held.{Held, state}
use Rattle.sqlite.specs.Steps.{over_memory}
use Rattle.hdl_name.specs.Name.{authority}
use Rattle.hdl_value.specs.Place.{Place, same_handle, same_place}
use Rattle.hdl_value.specs.Reading.{whole_of}
use Rattle.hdl_value.specs.Spelling.{refs_at}
use Rattle.hdl_value.specs.declared.references.RawRef.{RawRef}
use Rattle.hdl_value.specs.declared.value.Value.{Value}
use Rattle.hdl_rows.specs.Table.{Table, place}
use Rattle.hdl_sqlrows.specs.Layout.{layout, no_schema}

-- ---- what a row means

-- the number in a cell
abbrev pub number : Cell → ℕ
number Null = 0
number (Int (pos n)) = n
number (Int (negsuc n)) = 0
number (Real x) = 0
number (Text t) = 0
number (Blob b) = 0

-- the references that octets encode, none if they encode no list
abbrev pub refs_in : List ℕ → List RawRef
refs_in octets = unwrap_or (whole_of refs_at octets) []

-- the value in the cells of a result: idx, kind, bytes, ttl, perm, stamp, refs
abbrev pub value_of : Row → Value
value_of r = record {
  index = number (column r 0);
  kind = bytes (column r 1);
  bytes = bytes (column r 2);
  ttl = bytes (column r 3);
  permissions = number (column r 4);
  timestamp = from_be_bytes w64 (bytes (column r 5));
  references = refs_in (bytes (column r 6));
}

-- the cells of a row of `entries` from idx on, as a result shows them
abbrev pub cells_of : Row → Row
cells_of r = column r 2 ∷ column r 3 ∷ column r 4 ∷ column r 5 ∷ column r 6 ∷ column r 7 ∷ column r 8 ∷ []

-- the handle in a row of either table, and the place and the value in a row of `entries`
abbrev pub handle_in : Row → List ℕ
handle_in r = bytes (column r 1)

abbrev pub place_in : Row → Place
place_in r = place (handle_in r) (number (column r 2))

abbrev pub value_in : Row → Value
value_in r = value_of (cells_of r)

abbrev pub entry_in : Row → Place × Value
entry_in r = (place_in r, value_in r)

-- the table that the rows of both tables make
abbrev pub table_in : Trees → Table
table_in db = record { handles = set.from_list (map handle_in (db 0)); values = map.from_entries (map entry_in (db 2)) }

-- ---- what rows keep

-- a row of `handles`: the cells that a test or an order reads have the types of their columns, and the handle has its authority in the same row
pub record IsHandleRow (r : Row) : Type 0 where
  pub id : rowid r ≡ Int (id_in (rowid r))
  pub name : column r 1 ≡ Blob (handle_in r)
  pub authority : column r 2 ≡ Blob (authority (handle_in r))

-- a row of `entries`: the cells that a test or an order reads have the types of their columns
pub record IsEntryRow (r : Row) : Type 0 where
  pub id : rowid r ≡ Int (id_in (rowid r))
  pub name : column r 1 ≡ Blob (handle_in r)
  pub index : column r 2 ≡ Int (pos (number (column r 2)))

-- how many rows pass a test
abbrev pub times : (Row → Bool) → List Row → ℕ
times p rows = length (filter p rows)

-- at most one row for each key
abbrev pub AreSingle : {K : Type 0} → (K → Row → Bool) → List Row → Type 0
AreSingle {K} test rows = (k : K) → times (test k) rows ≤ 1

-- whether a row is of this handle, or of this place
abbrev pub has_handle : List ℕ → Row → Bool
has_handle h r = same_handle h (handle_in r)

abbrev pub has_place : Place → Row → Bool
has_place p r = same_place p (place_in r)

-- the rows of both tables are such rows, of which no two have one handle, one place or one rowid
pub record AreKept (db : Trees) : Type 0 where
  pub handles : AllByRecursion IsHandleRow (db 0)
  pub entries : AllByRecursion IsEntryRow (db 2)
  pub names : AreSingle has_handle (db 0)
  pub places : AreSingle has_place (db 2)
  pub handle_ids : AreSingle has_rowid (db 0)
  pub entry_ids : AreSingle has_rowid (db 2)

-- a database of this layout, whose rows are as they should be
pub record IsWhole (db : Database) : Type 0 where
  pub layout : db.schema ≡ layout
  pub kept : AreKept db.trees

-- ---- a connection

-- between two calls
pub record IsBetweenCalls (s : State) : Type 0 where
  pub whole : IsWhole s.now
  pub autocommit : s.in_transaction ≡ false
  pub committed : s.committed ≡ s.now

-- within a transaction
pub record IsInside (s : State) : Type 0 where
  pub whole : IsWhole s.now
  pub inside : s.in_transaction ≡ true

-- before the tables are made, and within the transaction that makes them
pub record IsBlank (s : State) : Type 0 where
  pub schema_is : s.now.schema ≡ no_schema
  pub committed : s.committed ≡ s.now

pub record IsBare (schema : Schema) (s : State) : Type 0 where
  pub schema_is : s.now.schema ≡ schema
  pub inside : s.in_transaction ≡ true

-- what a connection in memory shows; no proof looks into it
unfoldable pub state_of : Held MemStore → State
state_of conn = state over_memory conn

-- the table that a connection shows
abbrev pub table_of : Held MemStore → Table
table_of conn = table_in (state_of conn).now.trees
