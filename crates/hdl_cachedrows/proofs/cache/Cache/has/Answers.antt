use Rattle.std.proofs.Common.{sym, ◌∙◌}
use Rattle.hdl_cachedrows.proofs.Truth.{has_true}
use Rattle.hdl_cachedrows.proofs.cache.Cache.has.Goals as goal

pub returns : goal.returns
returns c = record { of_table = λ t all is. has_true t c.args.name.now c.args.self.now.kept.entries all (sym c.contains.ensures ∙ is) }
