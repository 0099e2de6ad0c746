use Rattle.std.proofs.Common.{arith, ◌≡◌, ◌∙◌, take, subst}
use Rattle.std.proofs.lemmas.Grind.{common_steps}
use Rattle.hdl_name.specs.Name.{IsHandle, authority}
use Rattle.hdl_name.proofs.Equal.{own_authority}
use Rattle.hdl_name.proofs.name.Name.authority.Goals as goal

pub returns-clause-of_canon : goal.returns-clause-of_canon
returns-clause-of_canon c =
    let of_sent : take c.self.inside.slash c.canon.result.now ≡ authority c.args.self.now = grind (arith, common_steps) in
    of_sent ∙ own_authority c.args.self.now (subst IsHandle c.self.view_is c.self.invariant.handle)
