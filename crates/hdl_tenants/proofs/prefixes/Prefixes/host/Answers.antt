use Rattle.std.proofs.Common.{◌≡◌, ◌==◌, sym, ap, ◌∙◌}
use Rattle.std.specs.Prelude.{find}
use Rattle.hdl_tenants.specs.Record.{hostings_in, hosts_of}
use Rattle.hdl_tenants.proofs.Hosts.{found_some, found_none}
use Rattle.hdl_tenants.proofs.prefixes.Prefixes.host.Goals as goal

pub returns-in-Some : goal.returns-in-Some
returns-in-Some c =
    let hs = hostings_in c.self.inside.hosted.items in
    let listed : c.in-Some.hosts.now.items ≡ hosts_of c.args.prefix.now hs = sym (found_some c.in-Some.hosts.now _ (sym c.in-Some.ensures.value)) ∙ c.self.invariant.found c.args.prefix.now in
    rw (← c.self.view_is) (c.host_among.ensures ∙ ap (find (λ h. h.publisher == c.args.publisher)) (c.deref.ensures.value ∙ listed))

pub returns-in-None : goal.returns-in-None
returns-in-None c =
    let none = sym (found_none _ (sym c.in-None.ensures.value)) ∙ c.self.invariant.found c.args.prefix.now in
    rw (← c.self.view_is) (ap (find (λ h. h.publisher == c.args.publisher)) none)
