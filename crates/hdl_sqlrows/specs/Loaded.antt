-- What it means that the rows of a database are loaded into a table in memory.
use Rattle.std.specs.Prelude.{◌≡◌, ◌==◌, if◌then◌else◌, [], ◌∷◌}
use Rattle.sqlite_value.specs.Order.{Row, column}
use Rattle.sqlite_trees.specs.Tree.{Trees}
use Rattle.hdl_rows.specs.Table.{Table}
use Rattle.hdl_sqlrows.specs.Stored.{AreKept, table_in}

-- the rows of `handles`, with no value
abbrev pub handles_alone : Trees → Trees
handles_alone db t = if t == 0 then db t else []

-- the rows are as they should be, and this table is theirs
pub record IsLoaded (db : Trees) (t : Table) : Type 0 where
  pub kept : AreKept db
  pub table : t ≡ table_in db

-- the row of `entries` that a result shows as idx, kind, bytes, ttl, perm, stamp, refs, name, rowid
abbrev pub entry_shown : Row → Row
entry_shown r = column r 8 ∷ column r 7 ∷ column r 0 ∷ column r 1 ∷ column r 2 ∷ column r 3 ∷ column r 4 ∷ column r 5 ∷ column r 6 ∷ []
