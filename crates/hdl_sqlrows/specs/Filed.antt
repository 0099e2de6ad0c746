-- What it means that a table is filed in a database: `handles` and `entries` hold exactly its rows.
use Rattle.std.specs.Prelude.{◌≡◌, IsTrue}
use Rattle.sqlite_trees.specs.Tree.{Trees}
use Rattle.sqlite.specs.State.{State, HasCleanDisk}
use Rattle.hdl_rows.specs.Table.{Table}
use Rattle.hdl_sqlrows.specs.Stored.{IsInside, table_in}

-- P, if the disk has returned what was written to it and the store is open
abbrev pub WhereOpen : State → Type 0 → Type 0
WhereOpen s P = HasCleanDisk s → IsTrue s.is_open → P

-- the table as a transaction sees it, and as the last commit left it
abbrev pub draft_table : State → Table
draft_table s = table_in s.now.trees

abbrev pub filed_table : State → Table
filed_table s = table_in s.committed.trees

-- an open store sees this table within a transaction
abbrev pub IsDraft : State → Table → Type 0
IsDraft s t = IsTrue s.is_open × IsInside s × (draft_table s ≡ t)

-- an open store has this table committed
abbrev pub IsFiled : State → Table → Type 0
IsFiled s t = IsTrue s.is_open × (filed_table s ≡ t)

-- a store that is open was open before, with the same last commit
abbrev pub KeepsCommitted : State → State → Type 0
KeepsCommitted old new = WhereOpen new (IsTrue old.is_open × (new.committed ≡ old.committed))

-- whatever a crash at this moment leaves is this table
abbrev pub CrashLeaves : State → Table → Type 0
CrashLeaves s t = (db : Trees) → s.may_leave db → table_in db ≡ t
