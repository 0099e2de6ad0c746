-- Each value stays at a handle that is there, and what a connection begins with.
use Rattle.std.proofs.Common.{true≢false, true, cond, ap, eq-eqb, length, ◌==◌, ◌≡◌, ◌⊎◌, inl, inr, ℕ, List, [], ◌∷◌, false, None, Some, Option, Ok, Err, Result, OnOk, OnErr, refl, sym, subst, ◌∙◌}
use Rattle.std.specs.FinMap as map
use Rattle.sqlite.specs.Held.{Held as MemHeld, state}
use Rattle.sqlite.specs.Steps.{over_memory, IsEmpty}
use Rattle.sqlite_trees.specs.declared.memory.MemStore.{MemStore}
use Rattle.hdl_value.specs.Place.{place_cmp}
use Rattle.hdl_value.specs.declared.value.Value.{Value}
use Rattle.hdl_rows.specs.Table.{Table, Held, place, has, at, value_with, no_rows, AreAbsent, HaveTheirIndexes, IsPlaced}
use Rattle.hdl_rows.specs.Write.{Write, after_write, CanWrite}
use Rattle.hdl_rows.proofs.Writes.{stay_placed_lem, some_none}
use Rattle.hdl_sqlrows.specs.Stored.{IsBlank, state_of}

none_or_some : (o : Option Value) → (o ≡ None) ⊎ ((v : Value) × (o ≡ Some v))
none_or_some None = inl refl
none_or_some (Some v) = inr (v, refl)

-- at an absent handle no value stands
pub absent_from : (t : Table) (h : List ℕ) (is : List ℕ) → IsPlaced t → has t h ≡ false → AreAbsent t h is
absent_from t h [] placed none = tt
absent_from t h (i ∷ is) placed none =
    (elim (none_or_some (at t (place h i))) [ inl e ↦ e | inr some ↦ absurd (true≢false (sym (placed (place h i) some.0 some.1) ∙ none)) ], absent_from t h is placed none)

-- where values stand at a handle it is there
pub there_if_some : (t : Table) (h : List ℕ) (vs : List Value) → IsPlaced t → HaveTheirIndexes t h vs → (length vs == 0) ≡ false → has t h ≡ true
there_if_some t h [] placed all some = absurd (true≢false some)
there_if_some t h (v ∷ vs) placed all some = placed (place h v.index) v (sym (all v.index) ∙ ap (λ b. cond b (Some v) (value_with v.index vs)) (eq-eqb v.index v.index refl))

pub placed_by : {E : Type 0} (old new : Table) (w : Write) (r : Result (Unit {0}) E) → IsPlaced old → CanWrite old w → OnOk r (new ≡ after_write old w) → OnErr r (new ≡ old) → IsPlaced new
placed_by old new w (Ok u) placed can done undone = subst IsPlaced (sym done) (stay_placed_lem old w placed can)
placed_by old new w (Err e) placed can done undone = subst IsPlaced (sym undone) placed

pub none_placed : (t : Table) → t ≡ no_rows → IsPlaced t
none_placed t is = subst IsPlaced (sym is) (λ p v some. absurd (some_none v (sym (sym (map.get-empty place_cmp p) ∙ some))))

pub opened : (c : MemHeld MemStore) → IsEmpty (state over_memory c) → IsBlank (state_of c) × (c.in_transaction ≡ false)
unfolding state_of
opened c empty = (record { schema_is = empty.2; committed = sym empty.0.clean }, empty.0.autocommit)

-- a fact of the table that callers see, at the canonical form of a name
pub at_canon : (P : Table → List ℕ → Type 0) (s o : Held) (g h : List ℕ) → s ≡ o → g ≡ h → P o.table h → P s.table g
at_canon P s o g h e f p = subst (λ (x : Held). P x.table g) (sym e) (subst (P o.table) (sym f) p)
