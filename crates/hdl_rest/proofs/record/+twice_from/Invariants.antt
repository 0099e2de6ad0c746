use Rattle.std.proofs.Common.{length}
use Rattle.hdl_rest.proofs.record.+twice_from.Given as goal

abbrev pub decreases-twice_from : goal.decreases-twice_from
decreases-twice_from l = length l.values.now
