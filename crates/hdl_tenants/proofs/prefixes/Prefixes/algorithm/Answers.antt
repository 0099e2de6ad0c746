use Rattle.std.proofs.Common.{ap, ◌∙◌}
use Rattle.std.specs.Prelude.{is_some, unwrap_or}
use Rattle.std.specs.Option.{option_map_or}
use Rattle.hdl_auth.specs.declared.algorithm.Algorithm.TheVariants.{Sha1}
use Rattle.hdl_tenants.proofs.Hosts.{hashes_listed, hosts_listed}
use Rattle.hdl_tenants.proofs.prefixes.Prefixes.algorithm.Goals as goal

pub returns-in_err-host-clause-hosted : goal.returns-in_err-host-clause-hosted
returns-in_err-host-clause-hosted c =
    ap is_some c.from_residual.ensures ∙ ap is_some c.in_err-host.ensures ∙ hosts_listed c.args.prefix.now c.args.self.now c.args.publisher

pub returns-in_err-host-clause-algorithm : goal.returns-in_err-host-clause-algorithm
returns-in_err-host-clause-algorithm c =
    ap (λ o. unwrap_or o Sha1) c.from_residual.ensures ∙ ap (λ o. option_map_or (λ h. h.algorithm) o Sha1) c.in_err-host.ensures ∙ hashes_listed c.args.prefix.now c.args.self.now c.args.publisher

pub returns-clause-hosted : goal.returns-clause-hosted
returns-clause-hosted c = ap is_some c.in_ok-host.ensures ∙ hosts_listed c.args.prefix.now c.args.self.now c.args.publisher

pub returns-clause-algorithm : goal.returns-clause-algorithm
returns-clause-algorithm c =
    ap (λ o. option_map_or (λ h. h.algorithm) o Sha1) c.in_ok-host.ensures ∙ hashes_listed c.args.prefix.now c.args.self.now c.args.publisher
