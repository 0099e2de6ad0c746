use Rattle.std.proofs.Common.{ap, sym, subst, ◌∙◌, option_copied}
use Rattle.hdl_cachedrows.specs.Cost.{total}
use Rattle.hdl_cachedrows.specs.Cache.{AreTrue}
use Rattle.hdl_cachedrows.proofs.Keys.{is_key, Lru}
use Rattle.hdl_cachedrows.proofs.Totals.{total-promoted}
use Rattle.hdl_cachedrows.proofs.Truth.{used_true, found_true}
use Rattle.hdl_cachedrows.proofs.cache.Cache.seek_at.Goals as goal

pub invariant_of-self : goal.invariant_of-self
invariant_of-self c = record {
  counted = c.args.self.now.counted ∙ sym (total-promoted (is_key c.args.name.now) c.args.self.now.kept.entries) ∙ ap (λ (k : Lru). total k.entries) (sym c.get.follows.holds-at-none);
  bounded = c.args.self.now.bounded;
}

pub invariant_of-self-in-None : goal.invariant_of-self-in-None
invariant_of-self-in-None c = record {
  counted = c.args.self.now.counted ∙ sym (total-promoted (is_key c.args.name.now) c.args.self.now.kept.entries) ∙ ap (λ (k : Lru). total k.entries) (sym c.get.follows.holds-at-none);
  bounded = c.args.self.now.bounded;
}

pub returns-in-Some-clause-of_table : goal.returns-in-Some-clause-of_table
returns-in-Some-clause-of_table c = λ t all. c.at.ensures.of_table t c.args.name.now (found_true t c.args.name.now c.args.self.now.kept.entries c.in-Some.kept.now all (sym (ap option_copied c.in-Some.is) ∙ c.get.ensures.value))

pub returns-in-Some-clause-still_true : goal.returns-in-Some-clause-still_true
returns-in-Some-clause-still_true c = λ t all. subst (λ (k : Lru). AreTrue t k.entries) (sym c.get.follows.holds-at-none) (used_true t c.args.name.now c.args.self.now.kept.entries all)

pub returns-in-None-clause-still_true : goal.returns-in-None-clause-still_true
returns-in-None-clause-still_true c = λ t all. subst (λ (k : Lru). AreTrue t k.entries) (sym c.get.follows.holds-at-none) (used_true t c.args.name.now c.args.self.now.kept.entries all)
