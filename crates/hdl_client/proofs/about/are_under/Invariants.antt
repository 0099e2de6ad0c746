use Rattle.std.proofs.Common.{◌↔◌, All}
use Rattle.hdl_msg.specs.Views.{strings_of}
use Rattle.hdl_client.specs.About.{IsUnder}
use Rattle.hdl_client.proofs.about.are_under.Given as goal

abbrev pub invariant-loop-handle : goal.invariant-loop-handle
invariant-loop-handle l = All (IsUnder l.fn.prefix) (strings_of l.handles) ↔ All (IsUnder l.fn.prefix) (strings_of l.fn.handles)
