use Rattle.std.proofs.Common.{◌≡◌, drop}
use Rattle.hdl_copied_handles.specs.Handles.{handles_of}
use Rattle.hdl_copied_handles.proofs.handles.CopiedHandles.of.Given as goal

abbrev pub invariant-loop-one : goal.invariant-loop-one
invariant-loop-one l = handles_of l.prefix (drop l.one-index l.one-items) ≡ handles_of l.prefix l.self.prefixes.items
