use Rattle.std.proofs.Common.{length}
use Rattle.hdl_forms.proofs.history.+with_entries.Given as goal

abbrev pub decreases-with_entries : goal.decreases-with_entries
decreases-with_entries l = length l.entries.now
