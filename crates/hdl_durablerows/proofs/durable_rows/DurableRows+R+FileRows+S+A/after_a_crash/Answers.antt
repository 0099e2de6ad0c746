use Rattle.std.proofs.Common.{◌≡◌, None, true, subst}
use Rattle.sqlite_trees.specs.Tree.{Trees}
use Rattle.sqlite.specs.State.{HasCleanDisk}
use Rattle.sqlite.specs.Held.{state}
use Rattle.hdl_sqlrows.specs.Stored.{table_in}
use Rattle.hdl_sqlrows.specs.Filed.{WhereOpen, CrashLeaves}
use Rattle.hdl_durablerows.specs.Durable.{IsNear}
use Rattle.hdl_durablerows.proofs.Crashes.{near_in, exact_in, shut_in}
use Rattle.hdl_durablerows.proofs.durable_rows.DurableRows+R+FileRows+S+A.after_a_crash.Goals as goal

pub returns-clause-near : goal.returns-clause-near
returns-clause-near g c =
    subst (λ l. HasCleanDisk (state g.S.Store l.file) → (db : Trees) → (state g.S.Store l.file).may_leave db → IsNear l.table l.owed (table_in db)) c.self.view_is (near_in (state g.S.Store c.self.inside.backing.file) (g.R.Rows.content c.self.inside.rows) c.self.inside.backing.pending c.self.invariant)

pub returns-clause-exact : goal.returns-clause-exact
returns-clause-exact g c =
    subst (λ l. l.owed ≡ None → HasCleanDisk (state g.S.Store l.file) → CrashLeaves (state g.S.Store l.file) l.table) c.self.view_is (exact_in (state g.S.Store c.self.inside.backing.file) (g.R.Rows.content c.self.inside.rows) c.self.inside.backing.pending c.self.invariant)

pub returns-clause-shut : goal.returns-clause-shut
returns-clause-shut g c =
    subst (λ l. l.is_shut ≡ true → WhereOpen (state g.S.Store l.file) ⊥) c.self.view_is (shut_in (state g.S.Store c.self.inside.backing.file) (g.R.Rows.content c.self.inside.rows) c.self.inside.backing.pending c.self.invariant)
