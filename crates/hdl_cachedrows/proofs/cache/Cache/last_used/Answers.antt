use Rattle.std.proofs.Common.{sym, ap, ◌∙◌, option_map}
use Rattle.std.specs.Map.Iter.{deref_pair}
use Rattle.hdl_cachedrows.proofs.Keys.{same}
use Rattle.hdl_cachedrows.proofs.Truth.{last_true}
use Rattle.hdl_cachedrows.proofs.cache.Cache.last_used.Goals as goal

pub returns-in-Some : goal.returns-in-Some
returns-in-Some c = record {
  of_table = λ t all.
      last_true t c.args.name.now c.args.self.now.kept.entries (c.in-Some.last.now, c.in-Some.kept.now) all (sym (ap (option_map deref_pair) c.in-Some.is) ∙ c.peek_mru.ensures)
      (sym c.as_slice.ensures.value ∙ same c.as_slice.result.now c.args.name.now (sym c.eq.ensures ∙ c.if-eq.true));
}
