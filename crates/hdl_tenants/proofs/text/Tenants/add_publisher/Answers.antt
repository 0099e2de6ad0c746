use Rattle.hdl_tenants.specs.Register.{Register}
use Rattle.hdl_tenants.specs.Record.{publisher_on}
use Rattle.hdl_tenants.proofs.Registers.{publisher_added}
use Rattle.hdl_tenants.proofs.text.Tenants.add_publisher.Goals as goal

pub invariant_of-self-2 : goal.invariant_of-self-2
invariant_of-self-2 c =
    let r : Register = record { publishers = c.self.inside.publishers; hostings = c.self.inside.prefixes; sites = c.self.inside.sites; opening = c.self.inside.opening.items } in
    rw c.in_ok-add.ensures.ok (publisher_added r (publisher_on c.args.line.now) c.self.invariant c.requires (c.in_ok-add.ensures.absent, c.in_ok-add.ensures.room))
