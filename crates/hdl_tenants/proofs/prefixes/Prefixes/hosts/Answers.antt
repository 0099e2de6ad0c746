use Rattle.std.proofs.Common.{ap, ◌∙◌}
use Rattle.std.specs.Prelude.{is_some}
use Rattle.hdl_tenants.proofs.Hosts.{some_copied, hosts_listed}
use Rattle.hdl_tenants.proofs.prefixes.Prefixes.hosts.Goals as goal

pub returns : goal.returns
returns c = c.is_some.ensures ∙ some_copied c.host.result ∙ ap is_some c.host.ensures ∙ hosts_listed c.args.prefix.now c.args.self.now c.args.publisher
