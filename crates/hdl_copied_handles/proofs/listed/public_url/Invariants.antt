use Rattle.std.proofs.Common.{◌≡◌, drop}
use Rattle.hdl_copied_handles.specs.Listed.{public_url}
use Rattle.hdl_copied_handles.proofs.listed.public_url.Given as goal

abbrev pub invariant-loop-value : goal.invariant-loop-value
invariant-loop-value l = public_url (drop l.value-index l.values) ≡ public_url l.values
