use Rattle.std.proofs.Common.{◌≡◌, drop}
use Rattle.hdl_copied_handles.specs.Handles.{listed_in}
use Rattle.hdl_copied_handles.proofs.handles.CopiedHandles.listed.Given as goal

abbrev pub invariant-loop-one : goal.invariant-loop-one
invariant-loop-one l = listed_in l.prefix (drop l.one-index l.one-items) ≡ listed_in l.prefix l.self.prefixes.items
