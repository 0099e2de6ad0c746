use Rattle.std.proofs.Common.{◌≡◌, sym, ◌∙◌, arith}
use Rattle.hdl_tenants.specs.Record.{hostings_in, hosts_of}
use Rattle.hdl_tenants.proofs.Hosts.{found_some, found_none, some_hosted, none_hosted}
use Rattle.hdl_tenants.proofs.prefixes.Prefixes.contains.Goals as goal

pub returns-in-Some : goal.returns-in-Some
returns-in-Some c =
    let hs = hostings_in c.self.inside.hosted.items in
    let listed : c.in-Some.hosts.now.items ≡ hosts_of c.args.prefix.now hs = sym (found_some c.in-Some.hosts.now _ (sym c.in-Some.ensures.value)) ∙ c.self.invariant.found c.args.prefix.now in
    rw (← c.self.view_is) (some_hosted c.args.prefix.now hs c.in-Some.hosts.now.items _ c.is_empty.result listed (omega arith) c.is_empty.ensures)

pub returns-in-None : goal.returns-in-None
returns-in-None c =
    let hs = hostings_in c.self.inside.hosted.items in
    rw (← c.self.view_is) (none_hosted c.args.prefix.now hs (sym (c.self.invariant.found c.args.prefix.now) ∙ found_none _ (sym c.in-None.ensures.value)))
