use Rattle.std.proofs.Common.{ap, sym, subst, ◌∙◌, arith, ◌+◌, ◌≡◌, ◌≤◌, ◌<◌, ◌-◌}
use Rattle.hdl_cachedrows.specs.Cost.{total}
use Rattle.hdl_cachedrows.specs.Cache.{AreTrue}
use Rattle.hdl_cachedrows.proofs.Keys.{Lru}
use Rattle.hdl_cachedrows.proofs.Totals.{given, let_go, total-pop, total-none}
use Rattle.lru.specs.LruCache.{last_entry}
use Rattle.hdl_cachedrows.proofs.Truth.{pop_true}
use Rattle.hdl_cachedrows.proofs.cache.Cache.shrink.Goals as goal

left : (c : goal.After-cost)
    → (c.cost.result ≤ c.loop-self.self.octets) × (c.loop-self.self.octets - c.cost.result ≡ total c.pop_lru.new.self.entries) × (0 < c.cost.result)
left c =
    let old = c.loop-self.self.kept.entries in
    let rests = ap (λ (k : Lru). total k.entries + given (last_entry old)) c.pop_lru.ensures.entries ∙ total-pop old ∙ sym c.loop-self.self.counted in
    let_go (last_entry old) (c.in-Some.name, c.in-Some.kept) c.deref.result.now c.loop-self.self.octets (total c.pop_lru.new.self.entries) c.cost.result
    (omega arith) rests (sym c.pop_lru.ensures.value ∙ c.in-Some.is) c.deref.ensures.value c.cost.ensures

pub overflow_sub-self : goal.overflow_sub-self
overflow_sub-self c = (left c).0

pub invariant_of-self : goal.invariant_of-self
invariant_of-self c = record { counted = (left c).1; bounded = let b = c.loop-self.self.bounded in omega arith }

pub loop-self-preserved : goal.loop-self-preserved
loop-self-preserved c = (c.loop-self.invariant.0, λ t all. subst (λ (k : Lru). AreTrue t k.entries) (sym c.pop_lru.ensures.entries) (pop_true t c.loop-self.self.kept.entries (c.loop-self.invariant.1 t all)))

pub unreachable-requires : goal.unreachable-requires
unreachable-requires c =
    let none = total-none c.loop-self.self.kept.entries (sym c.pop_lru.ensures.value ∙ c.in-None.is) in
    let counted = c.loop-self.self.counted in
    omega arith
