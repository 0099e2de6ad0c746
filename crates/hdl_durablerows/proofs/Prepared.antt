-- What a prepare leaves.
use Rattle.std.proofs.Common.{◌≡◌, inl, inr, List, [], ℕ, Ok, Err, Result, IsTrue, IfOk, IfErr, Bool, false, subst, arith}
use Rattle.sqlite_trees.specs.declared.error.StoreError.{StoreError}
use Rattle.sqlite_trees.specs.declared.error.StoreError.TheVariants.{OutOfMemory, Io, Corrupt, Full, Broken, Unstorable}
use Rattle.sqlite.specs.declared.error.Error.{Error}
use Rattle.sqlite.specs.declared.error.Error.TheVariants.{SqliteFailure}
use Rattle.sqlite.specs.declared.error.ErrorCode.TheVariants.{Closed}
use Rattle.sqlite.specs.State.{State, HasCleanDisk, Survives, IsUnchanged, IsNotRun, FailsToQuery, HasCause, store_error}
use Rattle.hdl_sqlrows.specs.Stored.{IsBetweenCalls}
use Rattle.hdl_sqlrows.specs.Filed.{WhereOpen, KeepsCommitted}
use Rattle.hdl_sqlrows.proofs.States.{Stays, query_fails, settled_stays}

prepare_stays : {X : Type 0} (P : X → Type 0) (old new : State) (sql : List ℕ) (r : Result X Error) → IfOk r (λ s. P s × IsUnchanged old new) → IfErr r (λ e. (params : _) → IsNotRun old new sql params e) → Stays old new
unfolding FailsToQuery
prepare_stays P old new sql (Ok s) ok err = inl ok.1
prepare_stays P old new sql (Err e) ok err = query_fails old new sql [] e (inl (err []))

was_open : (old new : State) → IsTrue new.is_open → Stays old new → IsTrue old.is_open
was_open old new up (inl same) = same.0.was_open
was_open old new up (inr back) = back.was_open up

pub still_settled : {X : Type 0} (P : X → Type 0) (old new : State) (sql : List ℕ) (r : Result X Error) → WhereOpen old (IsBetweenCalls old) → (HasCleanDisk new → IfOk r (λ s. P s × IsUnchanged old new))
    → (HasCleanDisk new → IfErr r (λ e. (params : _) → IsNotRun old new sql params e)) → Survives old new (λ _. ⊥) → WhereOpen new (IsBetweenCalls new)
still_settled P old new sql r settled ok err survives clean up =
    let stays = prepare_stays P old new sql r (ok clean) (err clean) in
    let before : HasCleanDisk old = omega (arith, clean, survives.clean) in
    (settled_stays old new (settled before (was_open old new up stays)) up stays).0

keeps_committed : (old new : State) → Stays old new → IsTrue new.is_open → IsTrue old.is_open × (new.committed ≡ old.committed)
keeps_committed old new (inl same) up = (same.0.was_open, same.0.committed_is)
keeps_committed old new (inr back) up = (back.was_open up, (back.undone up).1)

-- whatever became of it, a store that is open was open before, with the same last commit
pub kept : {X : Type 0} (P : X → Type 0) (old new : State) (sql : List ℕ) (r : Result X Error) → (HasCleanDisk new → IfOk r (λ s. P s × IsUnchanged old new))
    → (HasCleanDisk new → IfErr r (λ e. (params : _) → IsNotRun old new sql params e)) → KeepsCommitted old new
kept P old new sql r ok err clean up = keeps_committed old new (prepare_stays P old new sql r (ok clean) (err clean)) up

by_cause : (old new : State) (cause : StoreError) → SqliteFailure Closed ≡ store_error cause → HasCause old new ⊥ cause → old.is_open ≡ false
by_cause old new OutOfMemory is why = absurd cc
by_cause old new Io is why = absurd cc
by_cause old new Corrupt is why = absurd cc
by_cause old new Full is why = absurd cc
by_cause old new Broken is why = why
by_cause old new Unstorable is why = absurd cc

-- a prepare is told that the store has shut only where it has
pub closed : (old new : State) (sql : List ℕ) → IsNotRun old new sql [] (SqliteFailure Closed) → old.is_open ≡ false
unfolding IsNotRun
closed old new sql (inl ((inl fault), same)) = absurd (let e = fault.2 in cc)
closed old new sql (inl ((inr (c, is, inl many)), same)) = absurd (let e = many.1 in cc)
closed old new sql (inl ((inr (c, is, inr (inl some))), same)) = absurd (let e = some.1 in cc)
closed old new sql (inl ((inr (c, is, inr (inr none))), same)) = absurd (let e = none.1 in cc)
closed old new sql (inr h) = by_cause old new h.0 h.1 h.2

pub was_shut : {X : Type 0} (old new : State) (sql : List ℕ) (r : Result X Error) → r ≡ Err (SqliteFailure Closed) → IfErr r (λ e. (params : _) → IsNotRun old new sql params e) → old.is_open ≡ false
was_shut {X} old new sql r is err = closed old new sql (subst (λ (x : Result X Error). IfErr x (λ e. (params : _) → IsNotRun old new sql params e)) is err [])

-- what is asked of the answer, of what was told
pub of_told : {T : Type 0} (P Q : Bool → Type 0) (r : Result Bool T) → IfOk r P → ((is : Bool) → P is → Q is) → IfOk r Q
of_told P Q (Ok is) it to = to is it
of_told P Q (Err e) it to = tt
