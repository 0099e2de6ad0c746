-- What a write leaves of a table and its database.
use Rattle.std.proofs.Common.{◌≡◌, ◌∙◌, inl, inr, Some, true, false, IsTrue, sym, ap, arith}
use Rattle.sqlite_trees.specs.Tree.{Trees}
use Rattle.sqlite.specs.Effect.{Database}
use Rattle.sqlite.specs.State.{State, HasCleanDisk, Survives}
use Rattle.hdl_rows.specs.Table.{Table}
use Rattle.hdl_rows.specs.Write.{Write, CanWrite, after_write}
use Rattle.hdl_rows.proofs.Writes.{stay_placed_lem}
use Rattle.hdl_sqlrows.specs.Stored.{table_in}
use Rattle.hdl_sqlrows.specs.Filed.{WhereOpen, IsFiled, CrashLeaves, KeepsCommitted, filed_table}
use Rattle.hdl_durablerows.specs.Durable.{IsKept, IsTried, IsDoubted, LeavesNear, MayMake}

module _ (t : Table) (w : Write) (old mid : State) (kept : IsKept t old) (can : CanWrite t w) (survives : MayMake old mid w) where
  before : HasCleanDisk mid → HasCleanDisk old
  before clean = omega (arith, clean, survives.clean)

  same : HasCleanDisk mid → after_write (filed_table old) w ≡ after_write t w
  same clean = ap (λ u. after_write u w) (kept.live (before clean)).1

  -- the database has made it
  pub made : (HasCleanDisk mid → IsFiled mid (after_write (filed_table old) w)) → (HasCleanDisk mid → CrashLeaves mid (after_write (filed_table old) w)) → IsKept (after_write t w) mid
  made done durable = record {
    placed = stay_placed_lem t w kept.placed can;
    live = λ clean. ((done clean).0, (done clean).1 ∙ same clean);
    near = λ clean db may. durable clean db may ∙ same clean;
  }

  -- the database refused, and its store may have shut
  pub failed : WhereOpen mid (filed_table mid ≡ filed_table old) → WhereOpen mid (CrashLeaves mid (filed_table old)) → IsTried t w mid
  failed undone restored = record {
    placed = kept.placed;
    live = λ clean up.
        let was = (kept.live (before clean)).1 in
        ((up, undone clean up ∙ was), λ db may. restored clean up db may ∙ was);
    near = λ clean db may. elim (survives.crash clean db may) [
      | inl may0 ↦ inl (kept.near (before clean) db may0)
      | inr one ↦ inr (one (kept.live (before clean)).0 ∙ same clean)
    ];
  }

-- behind a write that failed the store was asked
module _ (t : Table) (w : Write) (mid last : State) (tried : IsTried t w mid) (later : Survives mid last (λ _. ⊥)) where
  middle : HasCleanDisk last → HasCleanDisk mid
  middle clean = omega (arith, clean, later.clean)

  crash : HasCleanDisk last → (db : Trees) → last.may_leave db → mid.may_leave db
  crash clean db may = elim (later.crash clean db may) [
    | inl may1 ↦ may1
    | inr none ↦ absurd none
  ]

  near : LeavesNear last t (Some w)
  near clean db may = tried.near (middle clean) db (crash clean db may)

  pub told_open : (HasCleanDisk last → IsFiled last (filed_table mid)) → (HasCleanDisk last → IsTrue mid.is_open) → IsKept t last
  told_open filed was_open = record {
    placed = tried.placed;
    live = λ clean. ((filed clean).0, (filed clean).1 ∙ (tried.live (middle clean) (was_open clean)).0.1);
    near = λ clean db may. (tried.live (middle clean) (was_open clean)).1 db (crash clean db may);
  }

  pub told_shut : (HasCleanDisk last → mid.is_open ≡ false) → KeepsCommitted mid last → IsDoubted t w last
  told_shut closed kept = record {
    shut = λ clean up. absurd (let e : true ≡ false = sym (kept clean up).0 ∙ closed clean in cc);
    near = near;
  }

  pub untold : KeepsCommitted mid last → IsTried t w last
  untold kept = record {
    placed = tried.placed;
    live = λ clean up.
        let it = tried.live (middle clean) (kept clean up).0 in
        ((up, ap (λ (d : Database). table_in d.trees) (kept clean up).1 ∙ it.0.1), λ db may. it.1 db (crash clean db may));
    near = near;
  }
