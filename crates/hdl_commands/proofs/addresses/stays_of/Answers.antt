use Rattle.std.proofs.Common.{◌↔◌, IsTrue, IfOk, ℕ, List, subst}
use Rattle.hdl_commands.specs.Addresses.{StaysFollowed, StaysOf}
use Rattle.hdl_commands.proofs.addresses.stays_of.Goals as goal

pub returns : goal.returns
unfolding StaysOf
returns c = subst (λ (rest : List ℕ). IfOk c.stays_followed.result (λ stays. IsTrue stays ↔ StaysFollowed c.args.old.now c.args.new.now rest)) c.rest_of.ensures c.stays_followed.ensures
