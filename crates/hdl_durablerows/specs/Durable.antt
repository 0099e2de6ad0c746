-- A table in memory, and what its database has.
use Rattle.std.specs.Prelude.{refl, ◌≡◌, ◌⊎◌, ℕ, ◌+◌, min, Bool, true, false, Option, None, Some, IsTrue}
use Rattle.std.specs.Coded.{Coded, code_by, coded×, coded_ℕ, coded_bool, coded_option}
use Rattle.sqlite_trees.specs.Tree.{Trees}
use Rattle.sqlite.specs.State.{State, HasCleanDisk, Survives}
use Rattle.hdl_rows.specs.Table.{Table, IsPlaced, table_code, most}
use Rattle.hdl_rows.specs.Debt.{Debt}
use Rattle.hdl_rows.specs.Write.{Write, CanWrite, after_write}
use Rattle.hdl_sqlrows.specs.Stored.{table_in}
use Rattle.hdl_sqlrows.specs.Filed.{WhereOpen, IsFiled, CrashLeaves, filed_table}
use Rattle.hdl_durablerows.specs.Writes.{write_code}
use Rattle.hdl_durablerows.specs.declared.durable_file.WriteState.{WriteState}
use Rattle.hdl_durablerows.specs.declared.durable_file.WriteState.TheVariants.{Made, Refused, Unknown, UnderWay}

-- What is known of a table's file: it has just this table; this write over this table was begun, and nobody has asked what became of it; or nobody can
-- tell whether the file has this write over this table.
pub data Standing : Type 0 where
  Keeps : Table → Standing
  Makes : Table → Write → Standing
  Doubts : Table → Write → Standing

-- what is known of the file behind a write over a table, by what the call told
abbrev pub left_by : Table → Write → WriteState → Standing
left_by t w Made = Keeps (after_write t w)
left_by t w Refused = Keeps t
left_by t w Unknown = Doubts t w
left_by t w UnderWay = Makes t w

-- this table, or this table after the write, where there is one
abbrev pub IsNear : Table → Option Write → Table → Type 0
IsNear t None u = u ≡ t
IsNear t (Some w) u = (u ≡ t) ⊎ (u ≡ after_write t w)

-- where the disk has returned what was written, whatever a crash leaves is this table, or this table after the write
abbrev pub LeavesNear : State → Table → Option Write → Type 0
LeavesNear s t w = HasCleanDisk s → (db : Trees) → s.may_leave db → IsNear t w (table_in db)

-- The database has just the rows of the table, and a crash leaves just them.
pub record IsKept (t : Table) (s : State) : Type 0 where
  pub placed : IsPlaced t
  pub live : HasCleanDisk s → IsFiled s t
  pub near : LeavesNear s t None

-- A write has failed: where the store is open, the database has just the rows of the table, and else a crash leaves it with the whole write or without.
pub record IsTried (t : Table) (w : Write) (s : State) : Type 0 where
  pub placed : IsPlaced t
  pub live : WhereOpen s (IsFiled s t × CrashLeaves s t)
  pub near : LeavesNear s t (Some w)

-- The store has shut, and a crash leaves the table with the whole write or without.
pub record IsDoubted (t : Table) (w : Write) (s : State) : Type 0 where
  pub shut : WhereOpen s ⊥
  pub near : LeavesNear s t (Some w)

-- what a database has, by what is known of it
abbrev pub StandsIn : State → Standing → Type 0
StandsIn s (Keeps t) = IsKept t s
StandsIn s (Makes t w) = IsTried t w s
StandsIn s (Doubts t w) = IsDoubted t w s

-- what a write leaves of a database that keeps a table
abbrev pub LeavesIn : State → State → Write → WriteState → Type 0
LeavesIn old new w m = (t : Table) → IsKept t old → CanWrite t w → StandsIn new (left_by t w m)

-- a crash within a write leaves what one left before, or the table with the whole write
abbrev pub MayMake : State → State → Write → Type 0
MayMake old new w = Survives old new (λ db. IsTrue old.is_open → table_in db ≡ after_write (filed_table old) w)

-- Who is told of it was told once more, up to the greatest count, just where the table became shut.
abbrev pub shut_notices_after : Bool → Bool → ℕ → ℕ
shut_notices_after false true n = min (n + 1) most
shut_notices_after false false n = n
shut_notices_after true is_shut n = n

-- what a contract sees: what the table holds, how many calls were refused, what was read, whether it is shut for writes, the write that the file may have and memory
-- hasn't, whether writes are handed over to be made beside the calls, and the file
pub record Durable (F : Type 0) : Type 0 where
  pub table : Table
  pub refused : ℕ
  pub reads : ℕ
  pub is_shut : Bool
  pub owed : Option Write
  pub hands_over : Bool
  pub file : F

-- whether a write will come to an end or has, by whether the table is shut and by the write: none will once it is shut
abbrev pub owes_by : Bool → Option Write → Bool
owes_by true w = false
owes_by false None = false
owes_by false (Some w) = true

-- what the table owes
abbrev pub debt_of : {F : Type 0} → Durable F → Debt
debt_of l = record { hands_over = l.hands_over; owes = owes_by l.is_shut l.owed }

abbrev pub durable_code : {F : Type 0} → Coded F → Coded (Durable F)
durable_code {F} file =
    code_by (Table × (ℕ × (ℕ × (Bool × (Option Write × (Bool × F)))))) (coded× table_code (coded× coded_ℕ (coded× coded_ℕ (coded× coded_bool (coded× (coded_option write_code) (coded× coded_bool file))))))
    (λ l. (l.table, (l.refused, (l.reads, (l.is_shut, (l.owed, (l.hands_over, l.file))))))) (λ p. record { table = p.0; refused = p.1.0; reads = p.1.1.0; is_shut = p.1.1.1.0; owed = p.1.1.1.1.0; hands_over = p.1.1.1.1.1.0; file = p.1.1.1.1.1.1 }) (λ _. refl)
