-- What a crash leaves of a table's file, and why a table is shut.
use Rattle.std.proofs.Common.{◌≡◌, ◌∙◌, inl, inr, None, Some, Option, true, sym, subst}
use Rattle.sqlite_trees.specs.Tree.{Trees}
use Rattle.sqlite.specs.State.{State, HasCleanDisk}
use Rattle.sqlite.specs.Files.{file_state}
use Rattle.hdl_rows.specs.Table.{Table}
use Rattle.hdl_rows.specs.Write.{Write, CanWrite, after_write}
use Rattle.hdl_sqlrows.specs.Stored.{table_in}
use Rattle.hdl_sqlrows.specs.Filed.{WhereOpen, CrashLeaves}
use Rattle.hdl_durablerows.specs.Durable.{Standing, Keeps, Makes, Doubts, IsNear, StandsIn, left_by}
use Rattle.hdl_durablerows.specs.Inverse.{IsUndo}
use Rattle.hdl_durablerows.specs.Pending.{IsBacking, owed_by, is_unknown}
use Rattle.hdl_durablerows.specs.Writes.{write_in}
use Rattle.hdl_durablerows.specs.Threaded.{StandsAt, IfHere, MayLeave}
use Rattle.hdl_durablerows.specs.declared.durable_file.WriteState.{WriteState}
use Rattle.hdl_durablerows.specs.declared.durable_file.WriteState.TheVariants as state
use Rattle.hdl_durablerows.specs.declared.pending.Pending.{Pending}
use Rattle.hdl_durablerows.specs.declared.pending.Pending.TheVariants.{Nothing, Begun, Ahead, Undoing, Unknown, UndoUnknown}
use Rattle.hdl_durablerows.specs.declared.threaded.FileHolder.{FileHolder}
use Rattle.hdl_durablerows.specs.declared.threaded.FileHolder.TheVariants.{Here, Away, Nowhere}

half_undone : (t u : Table) (w v : Write) → IsUndo t w v → IsNear (after_write t w) (Some v) u → IsNear t (Some w) u
half_undone t u w v is (inl e) = inr e
half_undone t u w v is (inr e) = inl (e ∙ is.1)

-- u is what a crash left of the file
module _ (stands : Standing → Type 0) (u : Table) (kept : (t : Table) → stands (Keeps t) → u ≡ t) (made : (t : Table) (w : Write) → stands (Makes t w) → IsNear t (Some w) u) (doubted : (t : Table) (w : Write) → stands (Doubts t w) → IsNear t (Some w) u) where
  near_beside : (t : Table) (p : Pending) → IsBacking stands t p → IsNear t (owed_by p) u
  near_beside t Nothing h = kept t h.file
  near_beside t (Begun own) h = made t (write_in own) h.file
  near_beside t (Ahead own) h = inr (kept (after_write t (write_in own)) h.file)
  near_beside t (Undoing own undo) h = half_undone t u (write_in own) (write_in undo) h.allowed.1 (made (after_write t (write_in own)) (write_in undo) h.file)
  near_beside t (Unknown own) h = doubted t (write_in own) h.file
  near_beside t (UndoUnknown own undo) h = half_undone t u (write_in own) (write_in undo) h.allowed (doubted (after_write t (write_in own)) (write_in undo) h.file)

module _ (stands : Standing → Type 0) (P : Type 0) (doubted : (t : Table) (w : Write) → stands (Doubts t w) → P) where
  shut_beside : (t : Table) (p : Pending) → IsBacking stands t p → is_unknown p ≡ true → P
  shut_beside t Nothing h is = absurd cc
  shut_beside t (Begun own) h is = absurd cc
  shut_beside t (Ahead own) h is = absurd cc
  shut_beside t (Undoing own undo) h is = absurd cc
  shut_beside t (Unknown own) h is = doubted t (write_in own) h.file
  shut_beside t (UndoUnknown own undo) h is = doubted (after_write t (write_in own)) (write_in undo) h.file

-- ---- a file whose writes are made by their calls

module _ (s : State) (t : Table) (p : Pending) (h : IsBacking (StandsIn s) t p) where
  pub near_in : HasCleanDisk s → (db : Trees) → s.may_leave db → IsNear t (owed_by p) (table_in db)
  near_in clean db may = near_beside (StandsIn s) (table_in db) (λ t1 it. it.near clean db may) (λ t1 w it. it.near clean db may) (λ t1 w it. it.near clean db may) t p h

  pub exact_in : owed_by p ≡ None → HasCleanDisk s → CrashLeaves s t
  exact_in none clean db may = subst (λ (o : Option Write). IsNear t o (table_in db)) none (near_in clean db may)

  pub shut_in : is_unknown p ≡ true → WhereOpen s ⊥
  shut_in = shut_beside (StandsIn s) (WhereOpen s ⊥) (λ t1 w it. it.shut) t p h

-- ---- a file that a thread may have

near_left : (s : State) (t : Table) (w : Write) (m : WriteState) → StandsIn s (left_by t w m) → HasCleanDisk s → (db : Trees) → s.may_leave db → IsNear t (Some w) (table_in db)
near_left s t w state.Made it clean db may = inr (it.near clean db may)
near_left s t w state.Refused it clean db may = inl (it.near clean db may)
near_left s t w state.Unknown it clean db may = it.near clean db may
near_left s t w state.UnderWay it clean db may = it.near clean db may

kept_at : (p : FileHolder) (db : Trees) → MayLeave p db → (t : Table) → StandsAt p (Keeps t) → table_in db ≡ t
kept_at (Here file) db may t it = it.near may.0 db may.1
kept_at (Away ended thread) db may t it = absurd it
kept_at Nowhere db may t it = absurd it

made_at : (p : FileHolder) (db : Trees) → MayLeave p db → (t : Table) (w : Write) → StandsAt p (Makes t w) → IsNear t (Some w) (table_in db)
made_at (Here file) db may t w it = it.near may.0 db may.1
made_at (Away ended thread) db may t w it =
    subst (λ v. IsNear t (Some v) (table_in db)) it.2 (near_left (file_state may.0.rows) t (write_in thread.promise.write.value) may.1.0 (may.1.1 t it.0 (subst (λ v. CanWrite t v) (sym it.2) it.1)) may.1.2 db may.1.3)
made_at Nowhere db may t w it = absurd it

doubted_at : (p : FileHolder) (db : Trees) → MayLeave p db → (t : Table) (w : Write) → StandsAt p (Doubts t w) → IsNear t (Some w) (table_in db)
doubted_at (Here file) db may t w it = it.near may.0 db may.1
doubted_at (Away ended thread) db may t w it = absurd it
doubted_at Nowhere db may t w it = absurd it

doubted_here : (p : FileHolder) (t : Table) (w : Write) → StandsAt p (Doubts t w) → IfHere p (λ s. WhereOpen s ⊥)
doubted_here (Here file) t w it = it.shut
doubted_here (Away ended thread) t w it = tt
doubted_here Nowhere t w it = tt

exact_here : (p : FileHolder) (t : Table) → ((db : Trees) → MayLeave p db → table_in db ≡ t) → IfHere p (λ s. HasCleanDisk s → CrashLeaves s t)
exact_here (Here file) t it = λ clean db may. it db (clean, may)
exact_here (Away ended thread) t it = tt
exact_here Nowhere t it = tt

module _ (at : FileHolder) (t : Table) (p : Pending) (h : IsBacking (StandsAt at) t p) where
  pub near_at : (db : Trees) → MayLeave at db → IsNear t (owed_by p) (table_in db)
  near_at db may = near_beside (StandsAt at) (table_in db) (kept_at at db may) (made_at at db may) (doubted_at at db may) t p h

  pub exact_at : owed_by p ≡ None → IfHere at (λ s. HasCleanDisk s → CrashLeaves s t)
  exact_at none = exact_here at t (λ db may. subst (λ (o : Option Write). IsNear t o (table_in db)) none (near_at db may))

  pub shut_at : is_unknown p ≡ true → IfHere at (λ s. WhereOpen s ⊥)
  shut_at = shut_beside (StandsAt at) (IfHere at (λ s. WhereOpen s ⊥)) (doubted_here at) t p h

pub here_map : (p : FileHolder) {P Q : State → Type 0} → ((s : State) → P s → Q s) → IfHere p P → IfHere p Q
here_map (Here file) f it = f (file_state file.rows) it
here_map (Away ended thread) f it = tt
here_map Nowhere f it = tt
