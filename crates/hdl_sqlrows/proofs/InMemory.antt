-- A store in memory is open, and its disk has returned what was written.
use Rattle.std.proofs.Common.{◌≡◌, ◌∙◌, refl, sym, ap, subst, Ok, Err, Result, OnOk, OnErr, false}
use Rattle.sqlite.specs.Effect.{Database}
use Rattle.sqlite.specs.Held.{Held, state}
use Rattle.sqlite.specs.State.{HasCleanDisk}
use Rattle.sqlite.specs.Steps.{over_memory}
use Rattle.sqlite.proofs.Callers.{memory_is_clean}
use Rattle.sqlite_trees.specs.declared.memory.MemStore.{MemStore}
use Rattle.hdl_rows.specs.Table.{Table}
use Rattle.hdl_sqlrows.specs.Stored.{IsBlank, IsBetweenCalls, table_in, state_of, table_of}
use Rattle.hdl_sqlrows.specs.Filed.{WhereOpen, IsFiled, filed_table}

pub idle : (c : Held MemStore) → IsBetweenCalls (state_of c) → c.in_transaction ≡ false
unfolding state_of
idle c settled = settled.autocommit

pub blank_where : (c : Held MemStore) → IsBlank (state_of c) → WhereOpen (state over_memory c) (IsBlank (state over_memory c))
unfolding state_of
blank_where c blank clean up = blank

pub settled_where : (c : Held MemStore) → IsBetweenCalls (state_of c) → WhereOpen (state over_memory c) (IsBetweenCalls (state over_memory c))
unfolding state_of
settled_where c settled clean up = settled

pub settled_here : (c : Held MemStore) → WhereOpen (state over_memory c) (IsBetweenCalls (state over_memory c)) → IsBetweenCalls (state_of c)
unfolding state_of
settled_here c settled = settled (memory_is_clean c) refl

-- what a table in memory shows is what it has filed
is_filed : (c : Held MemStore) → IsBetweenCalls (state_of c) → filed_table (state over_memory c) ≡ table_of c
unfolding state_of
is_filed c settled = ap (λ (d : Database). table_in d.trees) settled.committed

pub allowed_where : (c : Held MemStore) (P : Table → Type 0) → IsBetweenCalls (state_of c) → P (table_of c) → WhereOpen (state over_memory c) (P (filed_table (state over_memory c)))
allowed_where c P settled allowed clean up = subst P (sym (is_filed c settled)) allowed

pub done_here : {E : Type 0} (old new : Held MemStore) (F : Table → Table) (r : Result (Unit {0}) E) → IsBetweenCalls (state_of old) → IsBetweenCalls (state_of new)
    → OnOk r (HasCleanDisk (state over_memory new) → IsFiled (state over_memory new) (F (filed_table (state over_memory old)))) → OnOk r (table_of new ≡ F (table_of old))
done_here old new F (Err e) before after done = tt
done_here old new F (Ok u) before after done = sym (is_filed new after) ∙ (done (memory_is_clean new)).1 ∙ ap F (is_filed old before)

pub undone_here : {E : Type 0} (old new : Held MemStore) (r : Result (Unit {0}) E) → IsBetweenCalls (state_of old) → IsBetweenCalls (state_of new)
    → OnErr r (WhereOpen (state over_memory new) (filed_table (state over_memory new) ≡ filed_table (state over_memory old))) → OnErr r (table_of new ≡ table_of old)
undone_here old new (Ok u) before after undone = tt
undone_here old new (Err e) before after undone = sym (is_filed new after) ∙ undone (memory_is_clean new) refl ∙ is_filed old before

pub made_settled : {E : Type 0} (c : Held MemStore) (r : Result (Unit {0}) E) → OnOk r (WhereOpen (state over_memory c) (IsBetweenCalls (state over_memory c))) → OnOk r (IsBetweenCalls (state_of c))
made_settled c (Err e) made = tt
made_settled c (Ok u) made = settled_here c made

pub made_filed : {E : Type 0} (c : Held MemStore) (t : Table) (r : Result (Unit {0}) E) → OnOk r (IsBetweenCalls (state_of c)) → OnOk r (HasCleanDisk (state over_memory c) → IsFiled (state over_memory c) t) → OnOk r (table_of c ≡ t)
made_filed c t (Err e) settled made = tt
made_filed c t (Ok u) settled made = sym (is_filed c settled) ∙ (made (memory_is_clean c)).1
