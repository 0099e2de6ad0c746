-- What a query whose rows are read one at a time leaves of a store.
use Rattle.std.proofs.Common.{◌≡◌, inl, inr, ℕ, List, [], Err, Result, IfErr, OnErr, IsTrue, subst, sym, arith}
use Rattle.sqlite_trees.specs.declared.store.Store.{Ghosts}
use Rattle.sqlite.specs.declared.error.Error.{Error}
use Rattle.sqlite.specs.Given.{HasGiven, HasBegun, IsRefused}
use Rattle.sqlite.specs.Held.{Held, state}
use Rattle.sqlite.specs.Listing.{understood}
use Rattle.sqlite.specs.State.{State, HasCleanDisk, IsUnchanged, Survives, FailsToQuery, CommitsShowing}
use Rattle.sqlite.proofs.StateLemmas.{survives_weaker}
use Rattle.sqlite.proofs.Callers.{IsPlain, begun_plain, never_commits}
use Rattle.hdl_sqlrows.specs.Layout.{layout}
use Rattle.hdl_sqlrows.specs.Filed.{KeepsCommitted}
use Rattle.hdl_sqlrows.proofs.States.{Stays, query_fails}

-- the schema is the layout, where the disk has returned what was written
abbrev pub IsLaidOut : State → Type 0
IsLaidOut s = HasCleanDisk s → s.now.schema ≡ layout

-- nothing is committed by a statement that ends as it was or rolled back
stays_kept : (old new : State) → Stays old new → IsTrue new.is_open → IsTrue old.is_open × (new.committed ≡ old.committed)
stays_kept old new (inl same) up = (same.0.was_open, same.0.committed_is)
stays_kept old new (inr back) up = (back.was_open up, (back.undone up).1)

-- a query that did not begin
pub refused_as : {X : Type 0} (r : Result X Error) (e : Error) (P : Type 0) → r ≡ Err e → OnErr r P → P
refused_as r e P is h = subst (λ q. OnErr q P) is h

pub refused_kept : {X S : Type 0} (g : Ghosts S) (old new : Held S) (sql : List ℕ) (r : Result X Error) (e : Error) → r ≡ Err e → IsRefused g sql [] old r new → KeepsCommitted (state g old) (state g new)
refused_kept g old new sql r e is refused clean up = stays_kept (state g old) (state g new) (query_fails (state g old) (state g new) sql [] e (subst (λ q. IfErr q (FailsToQuery sql [] (state g old) (state g new))) is (refused.err clean))) up

-- a text with no RETURNING commits nothing
pub no_commit : (old new : State) (sql : List ℕ) → IsPlain (understood layout sql) → IsLaidOut old → Survives old new (CommitsShowing sql [] old) → Survives old new (λ _. ⊥)
no_commit old new sql plain is made =
    survives_weaker old new _ _ (λ clean db. never_commits sql [] old db (subst (λ s. IsPlain (understood s sql)) (sym (is (omega (arith, clean, made.clean)))) plain)) made

-- its first row is to come
pub begins : {S : Type 0} (g : Ghosts S) (old new : Held S) (sql : List ℕ) → IsPlain (understood layout sql) → IsLaidOut (state g old) → Survives (state g old) (state g new) (CommitsShowing sql [] (state g old)) → HasBegun g sql [] old new → HasCleanDisk (state g new)
    → HasGiven g sql [] new [] × IsUnchanged (state g old) (state g new)
begins g old new sql plain is made begun clean = begun_plain g sql [] old new (subst (λ s. IsPlain (understood s sql)) (sym (is (omega (arith, clean, made.clean)))) plain) begun
