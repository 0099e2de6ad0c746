use Rattle.std.proofs.Common.{rules}
use Rattle.hdl_name.proofs.Refused.{refusal_tells}
use Rattle.hdl_name.proofs.name.Name.read.Goals as goal

pub returns-in_err-slash-clause-no_handle : goal.returns-in_err-slash-clause-no_handle
returns-in_err-slash-clause-no_handle c = refusal_tells c.args.octets.now c.from_residual.result (search rules)
