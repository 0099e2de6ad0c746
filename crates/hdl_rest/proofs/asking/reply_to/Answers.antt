use Rattle.std.proofs.Common.{refl, inl}
use Rattle.hdl_rest.proofs.Sendings.{asked_nothing, asked_one}
use Rattle.hdl_rest.proofs.asking.reply_to.Goals as goal

pub returns-then-not-is_short-clause-asked : goal.returns-then-not-is_short-clause-asked
returns-then-not-is_short-clause-asked g c = asked_nothing (inl (refl, refl))

pub returns-in-Ok-clause-asked : goal.returns-in-Ok-clause-asked
returns-in-Ok-clause-asked g c = asked_one {g = g.S.ChangeServer} _ _ _ c.in-Ok.ensures.asked

pub returns-in-Err-clause-asked : goal.returns-in-Err-clause-asked
returns-in-Err-clause-asked g c = asked_one {g = g.S.ChangeServer} _ _ _ c.in-Err.ensures.asked
