use Rattle.std.proofs.Common.{refl}
use Rattle.hdl_serve.proofs.Sharing.{lets_none, lets_both}
use Rattle.hdl_serve.proofs.remote_changes.apply_remote_changes.Goals as goal

pub loop-count-init : goal.loop-count-init
loop-count-init g c = lets_none _ _ _ _ refl refl

pub loop-count-preserved : goal.loop-count-preserved
loop-count-preserved g c = lets_both _ _ _ _ _ _ c.loop-count.invariant c.apply_next_remote.ensures.beside

pub returns-in_err-next-clause-beside : goal.returns-in_err-next-clause-beside
returns-in_err-next-clause-beside g c = lets_both _ _ _ _ _ _ c.loop-count.invariant c.apply_next_remote.ensures.beside

pub returns-then-ne-clause-beside : goal.returns-then-ne-clause-beside
returns-then-ne-clause-beside g c = lets_both _ _ _ _ _ _ c.loop-count.invariant c.apply_next_remote.ensures.beside
