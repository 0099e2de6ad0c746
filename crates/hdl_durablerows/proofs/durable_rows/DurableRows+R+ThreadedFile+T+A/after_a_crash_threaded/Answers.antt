use Rattle.std.proofs.Common.{◌≡◌, None, true, subst}
use Rattle.sqlite_trees.specs.Tree.{Trees}
use Rattle.sqlite.specs.State.{HasCleanDisk}
use Rattle.hdl_sqlrows.specs.Stored.{table_in}
use Rattle.hdl_sqlrows.specs.Filed.{WhereOpen, CrashLeaves}
use Rattle.hdl_durablerows.specs.Durable.{IsNear}
use Rattle.hdl_durablerows.specs.Threaded.{IfHere, MayLeave}
use Rattle.hdl_durablerows.proofs.Crashes.{near_at, exact_at, shut_at}
use Rattle.hdl_durablerows.proofs.durable_rows.DurableRows+R+ThreadedFile+T+A.after_a_crash_threaded.Goals as goal

pub returns-clause-near : goal.returns-clause-near
returns-clause-near g c =
    subst (λ l. (db : Trees) → MayLeave l.file.place db → IsNear l.table l.owed (table_in db)) c.self.view_is (near_at c.self.inside.backing.file.place (g.R.Rows.content c.self.inside.rows) c.self.inside.backing.pending c.self.invariant)

pub returns-clause-exact : goal.returns-clause-exact
returns-clause-exact g c =
    subst (λ l. l.owed ≡ None → IfHere l.file.place (λ s. HasCleanDisk s → CrashLeaves s l.table)) c.self.view_is (exact_at c.self.inside.backing.file.place (g.R.Rows.content c.self.inside.rows) c.self.inside.backing.pending c.self.invariant)

pub returns-clause-shut : goal.returns-clause-shut
returns-clause-shut g c =
    subst (λ l. l.is_shut ≡ true → IfHere l.file.place (λ s. WhereOpen s ⊥)) c.self.view_is (shut_at c.self.inside.backing.file.place (g.R.Rows.content c.self.inside.rows) c.self.inside.backing.pending c.self.invariant)
