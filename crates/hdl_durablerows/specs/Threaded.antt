-- A file that a thread may have.
use Rattle.std.specs.Prelude.{◌≡◌, Bool, true, false}
use Rattle.std.specs.declared.thread.PromisedHandle.{PromisedHandle}
use Rattle.sqlite_trees.specs.Tree.{Trees}
use Rattle.sqlite.specs.State.{State, HasCleanDisk}
use Rattle.sqlite.specs.Files.{file_state}
use Rattle.hdl_rows.specs.Table.{Table}
use Rattle.hdl_rows.specs.Write.{Write, CanWrite}
use Rattle.hdl_durablerows.specs.Durable.{Standing, Keeps, Makes, Doubts, IsKept, StandsIn, LeavesIn}
use Rattle.hdl_durablerows.specs.Writes.{write_in}
use Rattle.hdl_durablerows.specs.declared.durable_file.WriteState.{WriteState}
use Rattle.hdl_durablerows.specs.declared.threaded.WritePromise.{WritePromise}
use Rattle.hdl_durablerows.specs.declared.threaded.FileHolder.{FileHolder}
use Rattle.hdl_durablerows.specs.declared.threaded.FileHolder.TheVariants.{Here, Away, Nowhere}

-- The file that the thread was given keeps the table, which allows the write; and that is the one that the thread makes.
abbrev pub IsHandedOver : {R : Type 0} → PromisedHandle R WritePromise → Table → Write → Type 0
IsHandedOver thread t w = IsKept t (file_state thread.promise.file.value.rows) × CanWrite t w × (write_in thread.promise.write.value ≡ w)

-- what is known of the file with a thread: that it makes a write
abbrev pub StandsAway : {R : Type 0} → PromisedHandle R WritePromise → Standing → Type 0
StandsAway thread (Keeps t) = ⊥
StandsAway thread (Makes t w) = IsHandedOver thread t w
StandsAway thread (Doubts t w) = ⊥

-- what is known of the file, here or with a thread
abbrev pub StandsAt : FileHolder → Standing → Type 0
StandsAt (Here file) k = StandsIn (file_state file.rows) k
StandsAt (Away ended thread) k = StandsAway thread k
StandsAt Nowhere k = ⊥

-- the file is here, or a thread has it
abbrev pub is_somewhere : FileHolder → Bool
is_somewhere (Here file) = true
is_somewhere (Away ended thread) = true
is_somewhere Nowhere = false

-- P, of the database that a file which is here has
abbrev pub IfHere : FileHolder → (State → Type 0) → Type 0
IfHere (Here file) P = P (file_state file.rows)
IfHere (Away ended thread) P = Unit {0}
IfHere Nowhere P = Unit {0}

-- some value of the same type
abbrev SomeLike : {F : Type 0} → F → (F → Type 0) → Type 0
SomeLike {F} f P = (x : F) × P x

-- What an open after a crash at this moment may find, where the disk has returned what was written: what the file that is here may leave, or any that the
-- thread may give back, whatever its write comes to.
abbrev pub MayLeave : FileHolder → Trees → Type 0
MayLeave (Here file) db = HasCleanDisk (file_state file.rows) × (file_state file.rows).may_leave db
MayLeave (Away ended thread) db = SomeLike thread.promise.file.value (λ back. (m : WriteState) × LeavesIn (file_state thread.promise.file.value.rows) (file_state back.rows) (write_in thread.promise.write.value) m × HasCleanDisk (file_state back.rows) × (file_state back.rows).may_leave db)
MayLeave Nowhere db = ⊥
