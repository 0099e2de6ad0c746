-- The effect of an opening on a database.
use Rattle.std.specs.Prelude.{◌≡◌, None, List, [], ◌∷◌, ℕ, not, fold, map, filter, IsTrue}
use Rattle.std.specs.Borrow.{Bor}
use Rattle.std.specs.FinMap as map
use Rattle.std.specs.FinSet as set
use Rattle.sqlite_value.specs.declared.value.Value.TheVariants.{Blob}
use Rattle.sqlite_value.specs.Order.{Row, column}
use Rattle.sqlite_trees.specs.Tree.{Trees}
use Rattle.sqlite.specs.State.{State}
use Rattle.hdl_name.specs.Name.{canonical}
use Rattle.hdl_value.specs.Place.{Place, handle_cmp}
use Rattle.hdl_value.specs.declared.value.Value.{Value}
use Rattle.hdl_rows.specs.Table.{Table, no_rows, place, has, at}
use Rattle.hdl_sqlrows.specs.Stored.{handle_in, table_in}

-- a handle's name, and a first value of the handle
abbrev pub First : Type 0
First = List ℕ × Value

abbrev pub handle : First → List ℕ
handle first = canonical first.0

abbrev pub place_of : First → Place
place_of first = place (handle first) first.1.index

-- what a reference to one shows
abbrev pub first_at : Bor First → First
first_at r = r.now

-- the table, and the handles that were opened
pub record Base : Type 0 where
  pub table : Table
  pub opened : set.FinSet handle_cmp

-- the contents of a database
abbrev pub base_in : Trees → Base
base_in db = record { table = table_in db; opened = set.from_list (map handle_in (db 4)) }

abbrev pub no_base : Base
no_base = record { table = no_rows; opened = set.empty }

-- the first values of handles that weren't opened, and those of handles that aren't in a table
abbrev pub left_to_open : set.FinSet handle_cmp → List First → List First
left_to_open opened = filter (λ first. not (set.contains opened (handle first)))

abbrev pub absent : Table → List First → List First
absent t = filter (λ first. not (has t (handle first)))

-- the table with one more value, whose handle is created if it is absent
abbrev pub with_first : Table → First → Table
with_first t first = record { handles = set.insert t.handles (handle first); values = map.insert t.values (place_of first) first.1 }

-- the same table, with these handles opened
abbrev pub noted_with : Base → List First → Base
noted_with base firsts = record base { opened = fold (λ opened first. set.insert opened (handle first)) base.opened firsts }

-- Each handle that wasn't opened is opened now, and gets its values if it is absent.
abbrev pub opened_with : Base → List First → Base
opened_with base firsts =
    let new = left_to_open base.opened firsts in
    noted_with (record base { table = fold with_first base.table (absent base.table new) }) new

-- what the last commit left
abbrev pub filed_base : State → Base
filed_base s = base_in s.committed.trees

-- an open store has this committed
abbrev pub HasFiled : State → Base → Type 0
HasFiled s base = IsTrue s.is_open × (filed_base s ≡ base)

-- whatever a crash at this moment leaves is this
abbrev pub CrashKeeps : State → Base → Type 0
CrashKeeps s base = (db : Trees) → s.may_leave db → base_in db ≡ base

-- ---- within a transaction

-- each value's place is free when its turn comes
abbrev pub AreFree : Table → List First → Type 0
AreFree t [] = Unit {0}
AreFree t (first ∷ firsts) = (at t (place_of first) ≡ None) × AreFree (with_first t first) firsts

-- a row of `opened`: a name, as octets
abbrev pub IsOpenedRow : Row → Type 0
IsOpenedRow r = column r 1 ≡ Blob (handle_in r)

-- an open store that was open sees the same within a transaction
pub record OnlyLooks (old new : State) : Type 0 where
  pub was_open : IsTrue old.is_open
  pub is_open : IsTrue new.is_open
  pub now : new.now ≡ old.now
  pub mode : new.in_transaction ≡ old.in_transaction
