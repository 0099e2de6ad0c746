-- Writes within one transaction, over any store.
use Rattle.std.proofs.Common.{◌≡◌, ℕ, List, map, true, false, IsTrue, Ok, Err, Result, OnOk, OnErr, IsOk, refl, sym, ap, subst, ◌∙◌, arith, inl, inr}
use Rattle.std.proofs.lemmas.Bool.{cases_Bool}
use Rattle.std.specs.FinSet as set
use Rattle.sqlite_value.specs.Order.{Row}
use Rattle.sqlite_trees.specs.declared.store.Store.{Ghosts}
use Rattle.sqlite_trees.specs.Tree.{Trees}
use Rattle.sqlite.specs.declared.error.ErrorCode.TheVariants as code
use Rattle.sqlite.specs.declared.error.Error.{Error}
use Rattle.sqlite.specs.declared.error.Error.TheVariants.{SqliteFailure}
use Rattle.sqlite.specs.Effect.{Database}
use Rattle.sqlite.specs.Held.{Held, state}
use Rattle.sqlite.specs.State.{State, HasCleanDisk, ExecutesInside, Survives}
use Rattle.sqlite.proofs.StateLemmas.{survives_then}
use Rattle.sqlite.proofs.Callers.{survives_begin}
use Rattle.hdl_value.specs.Place.{handle_cmp}
use Rattle.hdl_rows.specs.Table.{Table}
use Rattle.hdl_sqlrows.specs.Stored.{IsInside, IsBetweenCalls, IsWhole, handle_in, table_in}
use Rattle.hdl_sqlrows.specs.Opening.{base_in, filed_base}
use Rattle.hdl_sqlrows.specs.Filed.{WhereOpen, KeepsCommitted, IsDraft, IsFiled, draft_table, filed_table}
use Rattle.hdl_sqlrows.proofs.States.{kept_commit}

-- the handles that are noted in rows of `opened`
abbrev opened_in : List Row → set.FinSet handle_cmp
opened_in rows = set.from_list (map handle_in rows)

-- ---- one statement

-- a statement that went on was in a transaction
pub went_on : {X : Type 0} (old new : State) (sql : List ℕ) (params : Row) (count : ℕ)
    → (old.in_transaction ≡ false → (◌≡◌ {A = Result ℕ Error} (Ok count) (Err (SqliteFailure code.TransactionState))) × X) → (IsTrue old.in_transaction → ExecutesInside 0 sql params old new (Ok count))
    → ExecutesInside 0 sql params old new (Ok count)
went_on old new sql params count ended runs =
    elim (cases_Bool old.in_transaction) [
      | inl inside ↦ runs inside
      | inr outside ↦ absurd (let e = (ended outside).0 in cc)
    ]

-- however a statement ends, an open store was open and has the same last commit
pub keeps_filed : {S : Type 0} (g : Ghosts S) (old new : Held S) (sql : List ℕ) (params : Row) (r : Result ℕ Error)
    → ((state g old).in_transaction ≡ false → (r ≡ Err (SqliteFailure code.TransactionState)) × (new ≡ old)) → (HasCleanDisk (state g new) → IsTrue (state g old).in_transaction → ExecutesInside 0 sql params (state g old) (state g new) r)
    → KeepsCommitted (state g old) (state g new)
keeps_filed g old new sql params r ended runs clean up =
    elim (cases_Bool (state g old).in_transaction) [
      | inl inside ↦ kept_commit (state g old) (state g new) sql params r up (runs clean inside)
      | inr outside ↦ (subst (λ h. IsTrue (state g h).is_open) (ended outside).1 up, ap (λ h. (state g h).committed) (ended outside).1)
    ]

pub survives_none : (s : State) → Survives s s (λ _. ⊥)
survives_none s = record { clean = omega arith; shield = λ h. h; counts = omega arith; limit = refl; closes = λ _ up. inl up; crash = λ _ db h. inl h }

pub survives_both : (a b c : State) → Survives a b (λ _. ⊥) → Survives b c (λ _. ⊥) → Survives a c (λ _. ⊥)
survives_both a b c one two = survives_then a b c (λ _. ⊥) (λ _. ⊥) (λ _. ⊥) (λ _ db none. none) (λ _ db none. none) one two

pub keeps_both : (a b c : State) → Survives b c (λ _. ⊥) → KeepsCommitted a b → KeepsCommitted b c → KeepsCommitted a c
keeps_both a b c later one two clean up =
    let last = two clean up in
    let late : HasCleanDisk b = omega (arith, clean, later.clean) in
    let first = one late last.0 in
    (first.0, last.1 ∙ first.1)

pub on_ok : {A E : Type 0} (r : Result A E) (P Q : Type 0) → (P → Q) → OnOk r P → OnOk r Q
on_ok (Ok x) P Q f p = f p
on_ok (Err e) P Q f p = tt

pub on_err : {A E : Type 0} (r : Result A E) (P Q : Type 0) → (P → Q) → OnErr r P → OnErr r Q
on_err (Ok x) P Q f p = tt
on_err (Err e) P Q f p = f p

from_ok : {A E : Type 0} (r : Result A E) (P : Type 0) → IsOk r → OnOk r P → P
from_ok (Ok x) P is p = p
from_ok (Err e) P is p = absurd cc

-- ---- as a transaction begins

at_begin : {S : Type 0} (old new : Held S) (P : Held S → Type 0) → new ≡ record old { in_transaction = true } → P (record old { in_transaction = true }) → P new
at_begin old new P is p = subst P (sym is) p

-- nothing is open that isn't committed
abbrev pub IsEven : State → Type 0
IsEven s = WhereOpen s (s.committed ≡ s.now)

pub even : (s : State) → WhereOpen s (IsBetweenCalls s) → IsEven s
even s settled clean up = (settled clean up).committed

-- what holds of the database holds as the transaction begins
pub of_now : {S : Type 0} (g : Ghosts S) (old first : Held S) (P : Database → Type 0) → first ≡ record old { in_transaction = true } → WhereOpen (state g old) (P (state g old).now) → WhereOpen (state g first) (P (state g first).now × ((state g first).in_transaction ≡ true))
of_now g old first P is now = at_begin old first (λ h. WhereOpen (state g h) (P (state g h).now × ((state g h).in_transaction ≡ true))) is (λ clean up. (now clean up, refl))

pub inside_first : {S : Type 0} (g : Ghosts S) (old first : Held S) → first ≡ record old { in_transaction = true } → WhereOpen (state g old) (IsBetweenCalls (state g old)) → WhereOpen (state g first) (IsInside (state g first))
inside_first g old first is settled clean up =
    let it = of_now g old first IsWhole is (λ c u. (settled c u).whole) clean up in
    record { whole = it.0; inside = it.1 }

-- what a table allows as it is filed, it allows as the transaction begins
pub at_first : {S : Type 0} (g : Ghosts S) (old first : Held S) (P : Table → Type 0) → first ≡ record old { in_transaction = true } → IsEven (state g old) → WhereOpen (state g old) (P (filed_table (state g old))) → WhereOpen (state g first) (P (draft_table (state g first)))
at_first g old first P is same allowed clean up = (of_now g old first (λ (d : Database). P (table_in d.trees)) is (λ c u. subst (λ (d : Database). P (table_in d.trees)) (same c u) (allowed c u)) clean up).0

-- ---- a whole transaction

-- what the statements made of the table, where the store was open, and that it was
abbrev pub Drafts : {S E : Type 0} → Ghosts S → Held S → Held S → (Table → Table) → Result (Unit {0}) E → Type 0
Drafts g first mid F w = OnOk w (HasCleanDisk (state g mid) → IsTrue (state g first).is_open → IsDraft (state g mid) (F (draft_table (state g first))))

abbrev pub Surely : {S E : Type 0} → Ghosts S → Held S → Held S → (Table → Table) → Result (Unit {0}) E → Type 0
Surely g first mid F w = OnOk w (HasCleanDisk (state g mid) → IsTrue (state g first).is_open × IsDraft (state g mid) (F (draft_table (state g first))))

pub surely : {S E : Type 0} (g : Ghosts S) (first mid : Held S) (F : Table → Table) (w : Result (Unit {0}) E) → Surely g first mid F w → Drafts g first mid F w
surely g first mid F w put = on_ok w _ _ (λ p clean up. (p clean).1) put

pub inside_written : {S E : Type 0} (g : Ghosts S) (first mid : Held S) (F : Table → Table) (w : Result (Unit {0}) E) → KeepsCommitted (state g first) (state g mid) → Drafts g first mid F w → OnOk w (WhereOpen (state g mid) (IsInside (state g mid)))
inside_written g first mid F w kept put = on_ok w _ _ (λ p clean up. (p clean (kept clean up).0).1) put

module _ {S E D : Type 0} (g : Ghosts S) (old first mid last : Held S) (F : Table → Table) (w : Result (Unit {0}) E) (r : Result (Unit {0}) D) (is : first ≡ record old { in_transaction = true }) (same : IsEven (state g old))
    (inside : Survives (state g first) (state g mid) (λ _. ⊥)) (outside : Survives (state g mid) (state g last) (λ db. IsOk w × (db ≡ (state g mid).now.trees))) (kept : KeepsCommitted (state g first) (state g mid)) where
  later : HasCleanDisk (state g last) → HasCleanDisk (state g mid)
  later clean = omega (arith, clean, outside.clean)

  late : HasCleanDisk (state g last) → HasCleanDisk (state g first)
  late clean = omega (arith, clean, outside.clean, inside.clean)

  began : WhereOpen (state g first) (draft_table (state g first) ≡ filed_table (state g old))
  began clean up = (of_now g old first (λ (d : Database). table_in d.trees ≡ filed_table (state g old)) is (λ c u. ap (λ (d : Database). table_in d.trees) (sym (same c u))) clean up).0

  pub done_by : Drafts g first mid F w → OnOk r (IsOk w × (HasCleanDisk (state g last) → IsTrue (state g last).is_open × IsTrue (state g mid).is_open × ((state g last).committed ≡ (state g mid).now)))
      → OnOk r (HasCleanDisk (state g last) → IsFiled (state g last) (F (filed_table (state g old))))
  done_by put done = on_ok r _ _ (λ d clean.
      let it = d.1 clean in
      let up = (kept (later clean) it.1).0 in
      let p = from_ok w _ d.0 put (later clean) up in
      (it.0, ap (λ (x : Database). table_in x.trees) it.2 ∙ p.2 ∙ ap F (began (late clean) up))) done

  back : KeepsCommitted (state g mid) (state g last) → KeepsCommitted (state g old) (state g last)
  back undone clean up =
      let it = undone clean up in
      let two = kept (later clean) it.0 in
      (subst (λ h. IsTrue (state g h).is_open) is two.0, it.1 ∙ two.1 ∙ at_begin old first (λ h. (state g h).committed ≡ (state g old).committed) is refl)

  pub kept_by : OnErr r (KeepsCommitted (state g mid) (state g last)) → OnErr r (KeepsCommitted (state g old) (state g last))
  kept_by undone = on_err r _ _ back undone

  pub undone_by : OnErr r (KeepsCommitted (state g mid) (state g last)) → OnErr r (WhereOpen (state g last) (filed_table (state g last) ≡ filed_table (state g old)))
  undone_by undone = on_err r _ _ (λ u clean up. ap (λ (x : Database). table_in x.trees) (back u clean up).1) undone

  from_first : Survives (state g old) (state g mid) (λ _. ⊥)
  from_first = survives_begin g old (state g mid) (λ _. ⊥) (subst (λ h. Survives (state g h) (state g mid) (λ _. ⊥)) is inside)

  -- the same of anything that the statements left in the trees
  pub made_by : (P : Trees → Type 0) → OnOk w (HasCleanDisk (state g mid) → IsTrue (state g first).is_open → P (state g mid).now.trees)
      → OnOk r (IsOk w × (HasCleanDisk (state g last) → IsTrue (state g last).is_open × IsTrue (state g mid).is_open × ((state g last).committed ≡ (state g mid).now)))
      → OnOk r (HasCleanDisk (state g last) → IsTrue (state g last).is_open × P (state g last).committed.trees)
  made_by P put done = on_ok r _ _ (λ d clean.
      let it = d.1 clean in
      let up = (kept (later clean) it.1).0 in
      (it.0, subst (λ (x : Database). P x.trees) (sym it.2) (from_ok w _ d.0 put (later clean) up))) done

  pub leaves_if_open : (P : Trees → Type 0) → OnOk w (HasCleanDisk (state g mid) → IsTrue (state g first).is_open → P (state g mid).now.trees)
      → Survives (state g old) (state g last) (λ db. IsTrue (state g old).is_open → P db)
  leaves_if_open P put = survives_then (state g old) (state g mid) (state g last) (λ _. ⊥) (λ db. IsOk w × (db ≡ (state g mid).now.trees)) (λ db. IsTrue (state g old).is_open → P db) (λ _ db none. absurd none)
      (λ clean db made was. subst P (sym made.1) (from_ok w _ made.0 put (later clean) (at_begin old first (λ h. IsTrue (state g h).is_open) is was))) from_first outside

  pub leaves_surely : (P : Trees → Type 0) → OnOk w (HasCleanDisk (state g mid) → P (state g mid).now.trees) → Survives (state g old) (state g last) P
  leaves_surely P put = survives_then (state g old) (state g mid) (state g last) (λ _. ⊥) (λ db. IsOk w × (db ≡ (state g mid).now.trees)) P (λ _ db none. absurd none)
      (λ clean db made. subst P (sym made.1) (from_ok w _ made.0 put (later clean))) from_first outside

  began_rows : WhereOpen (state g first) ((state g first).now.trees 4 ≡ (state g old).committed.trees 4)
  began_rows clean up = (of_now g old first (λ (d : Database). d.trees 4 ≡ (state g old).committed.trees 4) is (λ c u. ap (λ (d : Database). d.trees 4) (sym (same c u))) clean up).0

  -- statements that leave the noted handles alone, and so the whole transaction, however it ends
  pub beside_by : OnOk w (HasCleanDisk (state g mid) → (state g mid).now.trees 4 ≡ (state g first).now.trees 4)
      → OnOk r (IsOk w × (HasCleanDisk (state g last) → IsTrue (state g last).is_open × IsTrue (state g mid).is_open × ((state g last).committed ≡ (state g mid).now))) → OnErr r (KeepsCommitted (state g mid) (state g last))
      → WhereOpen (state g last) ((filed_base (state g last)).opened ≡ (filed_base (state g old)).opened)
  beside_by rows done undone = by r done undone
    where
      by : (k : Result (Unit {0}) D) → OnOk k (IsOk w × (HasCleanDisk (state g last) → IsTrue (state g last).is_open × IsTrue (state g mid).is_open × ((state g last).committed ≡ (state g mid).now))) → OnErr k (KeepsCommitted (state g mid) (state g last))
          → WhereOpen (state g last) ((filed_base (state g last)).opened ≡ (filed_base (state g old)).opened)
      by (Ok u) d n clean up =
          let it = d.1 clean in
          let was = (kept (later clean) it.1).0 in
          ap (λ (x : Database). opened_in (x.trees 4)) it.2 ∙ ap opened_in (from_ok w _ d.0 rows (later clean) ∙ began_rows (late clean) was)
      by (Err e) d n clean up = ap (λ (x : Database). opened_in (x.trees 4)) (back n clean up).1

  pub beside_if_open : OnOk w (HasCleanDisk (state g mid) → (state g mid).now.trees 4 ≡ (state g first).now.trees 4)
      → Survives (state g old) (state g last) (λ db. IsTrue (state g old).is_open → (base_in db).opened ≡ (filed_base (state g old)).opened)
  beside_if_open rows = leaves_if_open (λ db. (base_in db).opened ≡ (filed_base (state g old)).opened) (on_ok w _ _ (λ stay clean was.
      let before : HasCleanDisk (state g first) = omega (arith, clean, inside.clean) in
      ap opened_in (stay clean ∙ began_rows before was)) rows)

  pub crash_if_open : Drafts g first mid F w → Survives (state g old) (state g last) (λ db. IsTrue (state g old).is_open → table_in db ≡ F (filed_table (state g old)))
  crash_if_open put = survives_then (state g old) (state g mid) (state g last) (λ _. ⊥) (λ db. IsOk w × (db ≡ (state g mid).now.trees)) (λ db. IsTrue (state g old).is_open → table_in db ≡ F (filed_table (state g old))) (λ _ db none. absurd none)
      (λ clean db made was.
      let up = at_begin old first (λ h. IsTrue (state g h).is_open) is was in
      let p = from_ok w _ made.0 put (later clean) up in
      ap table_in made.1 ∙ p.2 ∙ ap F (began (late clean) up)) from_first outside

  pub crash_surely : Surely g first mid F w → Survives (state g old) (state g last) (λ db. table_in db ≡ F (filed_table (state g old)))
  crash_surely put = survives_then (state g old) (state g mid) (state g last) (λ _. ⊥) (λ db. IsOk w × (db ≡ (state g mid).now.trees)) (λ db. table_in db ≡ F (filed_table (state g old))) (λ _ db none. absurd none)
      (λ clean db made.
      let p = from_ok w _ made.0 put (later clean) in
      ap table_in made.1 ∙ p.1.2 ∙ ap F (began (late clean) p.0)) from_first outside

-- a store that was settled is settled again, however the write ended
pub settled_again : {D : Type 0} (old last : State) (r : Result (Unit {0}) D) → WhereOpen old (IsBetweenCalls old) → HasCleanDisk old → last.in_transaction ≡ false → OnOk r (WhereOpen last (IsBetweenCalls last)) → OnErr r (KeepsCommitted old last) → OnErr r (WhereOpen last (last.now ≡ last.committed))
    → WhereOpen last (IsBetweenCalls last)
settled_again old last (Ok u) settled before mode done kept same clean up = done clean up
settled_again old last (Err e) settled before mode done kept same clean up =
    let it = kept clean up in
    let was = settled before it.0 in
    let whole : IsWhole last.committed = subst IsWhole (sym (it.1 ∙ was.committed)) was.whole in
    record { whole = subst IsWhole (sym (same clean up)) whole; autocommit = mode; committed = sym (same clean up) }
