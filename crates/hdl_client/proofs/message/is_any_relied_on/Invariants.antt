use Rattle.std.proofs.Common.{◌↔◌, All}
use Rattle.hdl_msg.specs.Views.{values_of}
use Rattle.hdl_client.specs.RequestMessage.{IsPlain}
use Rattle.hdl_client.proofs.message.is_any_relied_on.Given as goal

abbrev pub invariant-loop-value : goal.invariant-loop-value
invariant-loop-value l = All IsPlain (values_of l.values) ↔ All IsPlain (values_of l.fn.values)
