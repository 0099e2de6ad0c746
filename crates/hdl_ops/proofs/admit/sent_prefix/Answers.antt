use Rattle.std.proofs.Common.{◌≡◌, rules}
use Rattle.hdl_name.specs.Name.{sent_prefix}
use Rattle.hdl_ops.proofs.Lengths.{prefix_short}
use Rattle.hdl_ops.proofs.admit.sent_prefix.Goals as goal

pub returns-clause-short : goal.returns-clause-short
returns-clause-short c =
    let same : c.new.result ≡ sent_prefix c.args.name.now = search rules in
    rw same (prefix_short c.args.name.now c.sent.ensures.handle)
