use Rattle.std.proofs.Common.{ap, sym, subst, ◌∙◌, arith, ◌+◌, ◌≡◌, ◌≤◌, ◌<◌, ◌-◌}
use Rattle.std.specs.Map.{lookup_entry}
use Rattle.hdl_cachedrows.specs.Cost.{total}
use Rattle.hdl_cachedrows.specs.Cache.{AreTrue}
use Rattle.hdl_cachedrows.proofs.Keys.{is_key, Lru}
use Rattle.hdl_cachedrows.proofs.Totals.{given, let_go, total-remove_entry}
use Rattle.hdl_cachedrows.proofs.Truth.{forgotten_true, forgotten_was}
use Rattle.hdl_cachedrows.proofs.cache.Cache.forget.Goals as goal

left : (c : goal.After-cost)
    → (c.cost.result ≤ c.args.self.now.octets) × (c.args.self.now.octets - c.cost.result ≡ total c.pop_entry.new.self.entries) × (0 < c.cost.result)
left c =
    let old = c.args.self.now.kept.entries in
    let rests = ap (λ (k : Lru). total k.entries + given (lookup_entry (is_key c.args.name.now) old)) c.pop_entry.ensures.entries ∙ total-remove_entry (is_key c.args.name.now) old ∙ sym c.args.self.now.counted in
    let_go (lookup_entry (is_key c.args.name.now) old) (c.in-Some.name, c.in-Some.kept) c.deref.result.now c.args.self.now.octets (total c.pop_entry.new.self.entries) c.cost.result
    (omega arith) rests (sym c.pop_entry.ensures.value ∙ c.in-Some.is) c.deref.ensures.value c.cost.ensures

pub overflow_sub-self : goal.overflow_sub-self
overflow_sub-self c = (left c).0

pub invariant_of-self : goal.invariant_of-self
invariant_of-self c = record { counted = (left c).1; bounded = let b = c.args.self.now.bounded in omega arith }

pub invariant_of-self-in_default : goal.invariant_of-self-in_default
invariant_of-self-in_default c =
    let old = c.args.self.now.kept.entries in
    let none : given (lookup_entry (is_key c.args.name.now) old) ≡ 0 = ap given (sym c.pop_entry.ensures.value ∙ c.in_default.is) in
    let same : total c.pop_entry.new.self.entries + given (lookup_entry (is_key c.args.name.now) old) ≡ c.args.self.now.octets =
    ap (λ (k : Lru). total k.entries + given (lookup_entry (is_key c.args.name.now) old)) c.pop_entry.ensures.entries ∙ total-remove_entry (is_key c.args.name.now) old ∙ sym c.args.self.now.counted in
    record { counted = omega arith; bounded = c.args.self.now.bounded }

pub returns-in-Some-clause-of_table : goal.returns-in-Some-clause-of_table
returns-in-Some-clause-of_table c = λ t all. forgotten_was t c.args.name.now c.args.self.now.kept.entries (c.in-Some.name, c.in-Some.kept) all (sym c.pop_entry.ensures.value ∙ c.in-Some.is)

pub returns-in-Some-clause-still_true : goal.returns-in-Some-clause-still_true
returns-in-Some-clause-still_true c = λ t u all agree. subst (λ (k : Lru). AreTrue u k.entries) (sym c.pop_entry.ensures.entries) (forgotten_true t u c.args.name.now c.args.self.now.kept.entries c.len.ensures.valid.0 all agree)

pub returns-clause-still_true : goal.returns-clause-still_true
returns-clause-still_true c = λ t u all agree. subst (λ (k : Lru). AreTrue u k.entries) (sym c.pop_entry.ensures.entries) (forgotten_true t u c.args.name.now c.args.self.now.kept.entries c.len.ensures.valid.0 all agree)
