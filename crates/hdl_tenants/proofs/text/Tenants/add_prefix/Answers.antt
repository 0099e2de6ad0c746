use Rattle.std.proofs.Common.{sym, ap, ◌∙◌, IsFalse}
use Rattle.std.proofs.lemmas.Result.{err_from_is_err_and}
use Rattle.hdl_tenants.specs.Register.{Register, hosts}
use Rattle.hdl_tenants.proofs.Registers.{hosted_added}
use Rattle.hdl_tenants.proofs.Sayings.{from_prefix}
use Rattle.hdl_tenants.proofs.text.Tenants.add_prefix.Goals as goal

pub returns-in_err-add-clause-fault : goal.returns-in_err-add-clause-fault
returns-in_err-add-clause-fault c =
    let r : Register = record { publishers = c.self.inside.publishers; hostings = c.self.inside.prefixes; sites = c.self.inside.sites; opening = c.self.inside.opening.items } in
    let p = err_from_is_err_and c.from_residual.result c.from_residual.ensures.1 in
    rw (p.1, p.2, ← c.self.view_is) (from_prefix r c.args.line.now.prefix.now c.args.line.now.name.now c.in-Some.publisher c.in-Some.ensures.place c.in-Some.ensures.there _ (rw c.as_bytes.ensures.value at c.in_err-add.ensures.fault))

pub invariant_of-self-2 : goal.invariant_of-self-2
invariant_of-self-2 c =
    let r : Register = record { publishers = c.self.inside.publishers; hostings = c.self.inside.prefixes; sites = c.self.inside.sites; opening = c.self.inside.opening.items } in
    let absent : IsFalse (hosts r c.in-Some.publisher c.args.line.now.prefix.now) = rw c.as_bytes.ensures.value at c.in_ok-add.ensures.absent in
    rw (c.in_ok-add.ensures.ok, c.as_bytes.ensures.value, c.in-Some.ensures.place)
    (hosted_added r c.args.line.now.prefix.now c.args.line.now.name.now c.args.line.now.algorithm c.self.invariant c.requires (c.in-Some.ensures.there, ap (λ u. hosts r u c.args.line.now.prefix.now) (sym c.in-Some.ensures.place) ∙ absent))
