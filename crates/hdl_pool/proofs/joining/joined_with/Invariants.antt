use Rattle.std.proofs.Common.{◌≡◌, drop, set, Some}
use Rattle.hdl_frame.specs.Whole.{before, whole_payload}
use Rattle.hdl_pool.specs.Assembly.{lists}
use Rattle.hdl_pool.proofs.joining.joined_with.Given as goal

abbrev pub invariant-loop-k : goal.invariant-loop-k
invariant-loop-k l =
    whole_payload (set (lists l.payloads) l.number (Some l.payload)) ≡ before l.message.items (whole_payload (drop l.k (set (lists l.payloads) l.number (Some l.payload))))
