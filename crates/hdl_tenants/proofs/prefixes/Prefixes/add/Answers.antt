use Rattle.std.proofs.Common.{ap}
use Rattle.hdl_tenants.specs.Register.{Hosting}
use Rattle.hdl_tenants.specs.Record.{hosting_in, hostings_in}
use Rattle.hdl_tenants.proofs.Maps.{shown-push}
use Rattle.hdl_tenants.proofs.Hosts.{kept_push}
use Rattle.hdl_tenants.proofs.prefixes.Prefixes.add.Goals as goal

pub invariant_of-self-2 : goal.invariant_of-self-2
invariant_of-self-2 c =
    let hs = hostings_in c.self.inside.hosted.items in
    let h : Hosting = record { prefix = c.args.prefix.now; publisher = c.args.host.publisher; algorithm = c.args.host.algorithm } in
    let grown = shown-push hosting_in c.self.inside.hosted.items c.push.new.self.items _ h (rw c.in-Ok-reserve.ensures.items at c.in-Ok-push.ensures.items) (ap (λ p. record { prefix = p; publisher = c.args.host.publisher; algorithm = c.args.host.algorithm }) c.in-Ok-Ok.ensures'.items) in
    rw (c.in-Ok-insert.ensures.entries, grown)
    (kept_push c.self.inside.by_prefix.entries hs c.in-Ok-Ok.key c.in-Ok.hosts h c.in-Ok-Ok.ensures.items (rw (← c.self.view_is) at c.in-Ok.ensures) c.self.invariant)
