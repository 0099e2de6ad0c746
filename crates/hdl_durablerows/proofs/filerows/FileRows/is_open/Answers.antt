use Rattle.std.proofs.Common.{◌≡◌, false, subst}
use Rattle.sqlite.specs.Held.{state}
use Rattle.hdl_sqlrows.specs.Filed.{KeepsCommitted}
use Rattle.hdl_durablerows.proofs.Prepared.{still_settled, kept, was_shut, of_told}
use Rattle.hdl_durablerows.proofs.filerows.FileRows.is_open.Goals as goal

pub invariant_of-self : goal.invariant_of-self
invariant_of-self g c =
    (c.prepare.ensures.mode c.self.invariant.0, still_settled _ (state g.S.Store c.self.inside.conn) (state g.S.Store c.prepare.new.self) _ c.prepare.result c.self.invariant.1 c.prepare.ensures.ok c.prepare.ensures.err c.prepare.ensures.survives)

pub returns-clause-shut : goal.returns-clause-shut
returns-clause-shut g c =
    of_told _ _ c.openness.result c.openness.ensures.shut (λ is told no clean.
    subst (λ h. (state g.S.Store h).is_open ≡ false) c.self.view_is (was_shut (state g.S.Store c.self.inside.conn) (state g.S.Store c.prepare.new.self) _ c.prepare.result (told no) (c.prepare.ensures.err clean)))

pub returns-clause-kept : goal.returns-clause-kept
returns-clause-kept g c =
    subst (λ h. KeepsCommitted (state g.S.Store h) (state g.S.Store c.prepare.new.self)) c.self.view_is (kept _ (state g.S.Store c.self.inside.conn) (state g.S.Store c.prepare.new.self) _ c.prepare.result c.prepare.ensures.ok c.prepare.ensures.err)
