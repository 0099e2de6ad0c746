use Rattle.std.proofs.Common.{ap, refl, ◌∙◌, arith, ◌+◌, ◌≡◌, ◌≤◌, ◌<◌, ◌-◌}
use Rattle.hdl_cachedrows.specs.Cost.{kept_cost, entry_cost, total}
use Rattle.hdl_limits.specs.Counts.{at_most_u64}
use Rattle.hdl_cachedrows.proofs.Totals.{given, let_go, total-put}
use Rattle.hdl_cachedrows.proofs.Truth.{kept_true}
use Rattle.hdl_cachedrows.proofs.cache.Cache.insert.Goals as goal
use Rattle.hdl_cachedrows.proofs.cache.Cache.insert.Goals.{In-Ok, After-cost}

-- the key costs what the name does
paid : (c : In-Ok) → c.cost-cost.result ≡ at_most_u64 (entry_cost (c.args.name, c.args.kept))
paid c = c.cost-cost.ensures ∙ ap (λ h. at_most_u64 (kept_cost h c.args.kept)) c.deref.ensures.value

put : (c : In-Ok) → total c.push.new.self.entries + given c.in-Ok.displaced ≡ c.shrink.new.self.octets + c.cost-cost.result
put c =
    let old = c.shrink.new.self.kept in
    let is = total-put old c.args.name c.args.kept c.push.new.self c.len.ensures.valid c.in-Ok.ensures.entries in
    let counted = c.shrink.new.self.counted in
    let cost = paid c in
    let out = ap given c.in-Ok.ensures.old in
    let small = c.if-cost-self.false in
    omega arith

bound : (c : In-Ok) → c.shrink.new.self.octets + c.cost-cost.result ≤ c.shrink.new.self.limit
bound c = let small = c.if-cost-self.false in omega (arith, c.shrink.ensures.fits, c.shrink.ensures.same_limit)

left : (c : After-cost) → total c.push.new.self.entries + given c.in-Ok.displaced ≡ c.shrink.new.self.octets + c.cost-cost.result
    → (c.cost.result ≤ c.shrink.new.self.octets + c.cost-cost.result) × (c.shrink.new.self.octets + c.cost-cost.result - c.cost.result ≡ total c.push.new.self.entries) × (0 < c.cost.result)
left c is =
    let_go c.in-Ok.displaced (c.in-Some.name, c.in-Some.kept) c.deref-in-Some.result.now (c.shrink.new.self.octets + c.cost-cost.result) (total c.push.new.self.entries) c.cost.result
    (omega arith) is c.in-Some.is c.deref-in-Some.ensures.value c.cost.ensures

pub overflow_sub-self-in-Some : goal.overflow_sub-self-in-Some
overflow_sub-self-in-Some c = (left c (put (goal.at.overflow_sub-self-in-Some c).In-Ok)).0

pub invariant_of-self : goal.invariant_of-self
invariant_of-self c = record { counted = (left c (put (goal.at.invariant_of-self c).In-Ok)).1; bounded = let b = bound (goal.at.invariant_of-self c).In-Ok in omega arith }

pub invariant_of-self-in_default-displaced : goal.invariant_of-self-in_default-displaced
invariant_of-self-in_default-displaced c =
    let is = put (goal.at.invariant_of-self-in_default-displaced c).In-Ok in
    let none = ap given c.in_default-displaced.is in
    record { counted = omega arith; bounded = bound (goal.at.invariant_of-self-in_default-displaced c).In-Ok }

pub returns-in-Some-clause-still_true : goal.returns-in-Some-clause-still_true
returns-in-Some-clause-still_true c = λ t all of. kept_true c.push.result t c.shrink.new.self.kept c.push.new.self c.args.name c.args.kept c.args.name.items c.push.ensures.entries c.push.ensures.err refl (c.shrink.ensures.still_true t all) of

pub returns-in_default-displaced-clause-still_true : goal.returns-in_default-displaced-clause-still_true
returns-in_default-displaced-clause-still_true c = λ t all of. kept_true c.push.result t c.shrink.new.self.kept c.push.new.self c.args.name c.args.kept c.args.name.items c.push.ensures.entries c.push.ensures.err refl (c.shrink.ensures.still_true t all) of

pub returns-in_default-clause-still_true : goal.returns-in_default-clause-still_true
returns-in_default-clause-still_true c = λ t all of. kept_true c.push.result t c.shrink.new.self.kept c.push.new.self c.args.name c.args.kept c.args.name.items c.push.ensures.entries c.push.ensures.err refl (c.shrink.ensures.still_true t all) of
