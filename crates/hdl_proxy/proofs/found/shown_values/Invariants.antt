use Rattle.std.proofs.Common.{◌≡◌, ◌↔◌, ◌++◌, All}
use Rattle.std.specs.List.{filter}
use Rattle.hdl_msg.specs.Views.{values_of}
use Rattle.hdl_value.specs.Fault.{IsSound}
use Rattle.hdl_proxy.specs.Choice.{is_shown}
use Rattle.hdl_proxy.proofs.found.shown_values.Given as goal

abbrev pub invariant-loop-cut : goal.invariant-loop-cut
invariant-loop-cut l = record {
  shown : l.shown.items ++ filter is_shown (values_of l.values) ≡ filter is_shown (values_of l.fn.values);
  sound : All IsSound (values_of l.values) ↔ All IsSound (values_of l.fn.values);
}
