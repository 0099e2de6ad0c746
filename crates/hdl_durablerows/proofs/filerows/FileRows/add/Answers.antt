use Rattle.std.proofs.Common.{subst, OnErr}
use Rattle.sqlite.specs.Held.{state}
use Rattle.hdl_sqlrows.specs.Filed.{WhereOpen, CrashLeaves, filed_table}
use Rattle.hdl_durablerows.proofs.filerows.FileRows.add.Goals as goal

pub returns-clause-restored : goal.returns-clause-restored
returns-clause-restored g c =
    subst (λ h. OnErr c.add.result (WhereOpen (state g.S.Store c.add.new.conn) (CrashLeaves (state g.S.Store c.add.new.conn) (filed_table (state g.S.Store h))))) c.self.view_is c.add.ensures.restored
