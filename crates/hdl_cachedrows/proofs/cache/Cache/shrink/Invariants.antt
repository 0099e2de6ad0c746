use Rattle.std.proofs.Common.{◌≡◌, ◌-◌}
use Rattle.hdl_rows.specs.Table.{Table}
use Rattle.hdl_cachedrows.specs.Cache.{AreTrue}
use Rattle.hdl_cachedrows.proofs.cache.Cache.shrink.Given as goal

abbrev pub invariant-loop-self : goal.invariant-loop-self
invariant-loop-self l = (l.self.limit ≡ l.initial.self.limit) × ((t : Table) → AreTrue t l.initial.self.kept.entries → AreTrue t l.self.kept.entries)

abbrev pub decreases-loop-self : goal.decreases-loop-self
decreases-loop-self l = l.self.octets - l.most
