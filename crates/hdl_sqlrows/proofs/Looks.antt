-- What a look within a transaction leaves, and what it answers.
use Rattle.std.proofs.Common.{◌≡◌, ◌⊎◌, inl, inr, ℕ, List, true, None, Some, Option, IsTrue, refl, sym, ap, subst, ◌∙◌}
use Rattle.std.specs.FinSet as set
use Rattle.sqlite_value.specs.Order.{Row}
use Rattle.sqlite_schema.specs.declared.command.Returning.{Returning}
use Rattle.sqlite_schema.specs.declared.schema.Schema.{Schema}
use Rattle.sqlite_resolve.specs.declared.compiled.Compiled.{Compiled}
use Rattle.sqlite.specs.declared.error.Error.{Error}
use Rattle.sqlite.specs.Effect.{Database}
use Rattle.sqlite.specs.Listing.{understood}
use Rattle.sqlite.specs.State.{State, Shown, ShowsRows, IsUnchanged, FailsToQuery, IsTooLate}
use Rattle.sqlite.proofs.Callers.{IsPlain}
use Rattle.hdl_value.proofs.Places.{insert_member}
use Rattle.hdl_rows.specs.Table.{has}
use Rattle.hdl_sqlrows.specs.Layout.{layout}
use Rattle.hdl_sqlrows.specs.Stored.{IsInside, IsWhole, table_in}
use Rattle.hdl_sqlrows.specs.Filed.{IsDraft, draft_table}
use Rattle.hdl_sqlrows.specs.Opening.{OnlyLooks}
use Rattle.hdl_sqlrows.proofs.States.{Stays, query_fails}

open_before : (old new : State) (sql : List ℕ) (c : Compiled) (params : Row) (rows : List Row) (what : Option Returning) → ShowsRows old new sql c params rows what → IsTrue old.is_open
open_before old new sql c params rows None h = h.3.0.was_open
open_before old new sql c params rows (Some what) h = h.1.shown.was_open

-- a query that was answered writes nothing
pub looked : (old new : State) (sql : List ℕ) (params : Row) (rows : List Row) → IsPlain (understood layout sql) → (IsTrue old.is_open → IsInside old) → Shown sql params old new rows → IsUnchanged old new
unfolding Shown
looked old new sql params rows bare inside h =
    let up = open_before old new sql h.0 _ rows _ h.2 in
    let known = subst (λ (s : Schema). IsPlain (understood s sql)) (sym (inside up).whole.layout) bare in
    let none = (subst IsPlain h.1.is known).0 in
    (subst (ShowsRows old new sql h.0 _ rows) none h.2).3

pub only_looks : (old new : State) → IsUnchanged old new → OnlyLooks old new
only_looks old new same = record { was_open = same.0.was_open; is_open = same.0.is_open; now = same.0.now_is; mode = same.0.mode }

stays_committed : (old new : State) → IsTrue new.is_open → Stays old new → IsTrue old.is_open × (new.committed ≡ old.committed)
stays_committed old new up (inl same) = (same.0.was_open, same.0.committed_is)
stays_committed old new up (inr back) = (back.was_open up, (back.undone up).1)

-- one that failed commits nothing
pub look_fails : (old new : State) (sql : List ℕ) (params : Row) (e : Error) → IsTrue new.is_open → FailsToQuery sql params old new e ⊎ IsTooLate sql params old new e → IsTrue old.is_open × (new.committed ≡ old.committed)
look_fails old new sql params e up (inl h) = stays_committed old new up (query_fails old new sql params e h)
look_fails old new sql params e up (inr late) = (late.5.0.was_open, late.5.0.committed_is)

pub looks_inside : (old new : State) → IsInside old → OnlyLooks old new → IsInside new
looks_inside old new inside looks = record { whole = subst IsWhole (sym looks.now) inside.whole; inside = looks.mode ∙ inside.inside }

-- a handle that is there already
pub there_already : (old new : State) (h : List ℕ) → IsInside old → OnlyLooks old new → has (draft_table old) h ≡ true → IsDraft new (record (draft_table old) { handles = set.insert (draft_table old).handles h })
there_already old new h inside looks there = (
  looks.is_open,
  looks_inside old new inside looks,
  ap (λ (d : Database). table_in d.trees) looks.now ∙ sym (λ i. record (draft_table old) { handles = insert_member (draft_table old).handles h there i }),
)

-- nothing was looked at yet, and one look more
pub looks_none : (s : State) → IsTrue s.is_open → OnlyLooks s s
looks_none s up = record { was_open = up; is_open = up; now = refl; mode = refl }

pub looks_on : (a b c : State) → OnlyLooks a b → OnlyLooks b c → OnlyLooks a c
looks_on a b c one two = record { was_open = one.was_open; is_open = two.is_open; now = two.now ∙ one.now; mode = two.mode ∙ one.mode }
