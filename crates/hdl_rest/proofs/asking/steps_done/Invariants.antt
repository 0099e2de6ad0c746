use Rattle.std.proofs.Common.{◌≡◌, map, take}
use Rattle.hdl_msg.specs.RequestBody.{requested_operation}
use Rattle.hdl_rest.specs.Sending.{Sends}
use Rattle.hdl_rest.specs.Since.{AskedSince}
use Rattle.hdl_rest.proofs.asking.steps_done.Given as goal

abbrev pub invariant-loop-step : goal.invariant-loop-step
invariant-loop-step g l = record {
  counted : l.count ≡ l.step-index;
  asked : AskedSince g.S.ChangeServer l.initial.service l.service (λ xs. Sends l.order.key (map requested_operation (take l.step-index l.steps)) xs l.step-index);
}
