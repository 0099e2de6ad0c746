-- The three tables, as sqlite keeps them.
use Rattle.std.specs.Prelude.{true, false, [], ◌∷◌, None, codes, List, ℕ}
use Rattle.sqlite_value.specs.declared.keys.Collation.TheVariants.{Binary}
use Rattle.sqlite_value.specs.declared.value.Value.TheVariants.{Null}
use Rattle.sqlite_schema.specs.declared.schema.Kind.TheVariants as kind
use Rattle.sqlite_schema.specs.declared.schema.Action.TheVariants.{NoAction, Cascade}
use Rattle.sqlite_schema.specs.declared.schema.Kind.{Kind}
use Rattle.sqlite_schema.specs.declared.schema.Column.{Column}
use Rattle.sqlite_schema.specs.declared.schema.Index.{Index}
use Rattle.sqlite_schema.specs.declared.schema.Reference.{Reference}
use Rattle.sqlite_schema.specs.declared.schema.Stamps.{Stamps}
use Rattle.sqlite_schema.specs.declared.schema.Table.{Table}
use Rattle.sqlite_schema.specs.declared.schema.Schema.{Schema}
use Rattle.sqlite_value.specs.Keys.{plain}
use Rattle.sqlite_catalog.specs.Change.{created}

-- a column of this kind that is never null
abbrev pub required_column : List ℕ → Kind → Column
required_column name kind = record { name = name; kind = kind; is_strict = true; not_null = true; default = Null; collation = Binary }

-- no value that reads the time
abbrev pub no_stamps : Stamps
no_stamps = record { places = []; terms = []; formats = [] }

-- a table of this key, which isn't its rowid, with no test of a row and no value that is computed
abbrev pub keyed_table : List ℕ → ℕ → List Column → List ℕ → List Reference → Table
keyed_table name tree columns key references = record {
  name = name;
  tree = tree;
  columns = columns;
  key = None;
  primary = key;
  uniques = key ∷ [];
  orders = plain ∷ [];
  checks = [];
  references = references;
  computed = [];
  stamps = no_stamps;
  is_counted = false;
}

abbrev pub handle_columns : List Column
handle_columns = required_column (codes "name") kind.Blob ∷ required_column (codes "authority") kind.Blob ∷ []

-- a row for each handle, with its authority
abbrev pub handles : Table
handles = keyed_table (codes "handles") 0 handle_columns (1 ∷ []) []

-- the columns of a value besides its handle and index
abbrev pub cell_columns : List Column
cell_columns =
    required_column (codes "kind") kind.Blob ∷ required_column (codes "bytes") kind.Blob ∷ required_column (codes "ttl") kind.Blob ∷ required_column (codes "perm") kind.Integer
    ∷ required_column (codes "stamp") kind.Blob ∷ required_column (codes "refs") kind.Blob ∷ []

abbrev pub entry_columns : List Column
entry_columns = required_column (codes "name") kind.Blob ∷ required_column (codes "idx") kind.Integer ∷ cell_columns

-- the reference to the row of the handle; if that row is deleted, so is this one
abbrev pub to_handles : Reference
to_handles = record { columns = 1 ∷ []; parent = codes "handles"; parent_columns = codes "name" ∷ []; on_delete = Cascade; on_update = NoAction; is_deferred = false }

-- a row for each value, with its cells besides its handle; it is deleted with the handle's row
abbrev pub entries : Table
entries = keyed_table (codes "entries") 2 entry_columns (1 ∷ 2 ∷ []) (to_handles ∷ [])

-- a row for each handle that was opened with its first values, which happens once
abbrev pub opened_table : Table
opened_table = keyed_table (codes "opened") 4 (required_column (codes "name") kind.Blob ∷ []) (1 ∷ []) []

-- the database before the tables are made, with one of them, with two, and with all
abbrev pub no_schema : Schema
no_schema = record { tables = []; indexes = []; views = [] }

abbrev pub one_table : Schema
one_table = created no_schema handles

abbrev pub two_tables : Schema
two_tables = created one_table (record entries { tree = 0 })

abbrev pub layout : Schema
layout = created two_tables (record opened_table { tree = 0 })

-- the index that keeps a key unique, and those that the tables get with their keys
abbrev pub guard : List ℕ → ℕ → ℕ → List ℕ → Index
guard name tree table key = record { name = name; tree = tree; table = table; columns = key; order = plain; is_unique = true }

abbrev pub guards : List Index
guards = guard (codes "sqlite_autoindex_handles_1") 1 0 (1 ∷ []) ∷ guard (codes "sqlite_autoindex_entries_1") 3 2 (1 ∷ 2 ∷ []) ∷ guard (codes "sqlite_autoindex_opened_1") 5 4 (1 ∷ []) ∷ []
