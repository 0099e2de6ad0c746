use Rattle.std.proofs.Common.{ap, sym, refl, sum_by}
use Rattle.hdl_name.specs.Name.{prefix}
use Rattle.hdl_boundedrows.specs.Bounded.{Bounded, none}
use Rattle.hdl_boundedrows.proofs.Counts.{settled_as, within_as, uncounted, uncounted_within}
use Rattle.hdl_boundedrows.proofs.bounded.BoundedRowsRows.add.Goals as goal

pub returns-then-not-count-clause-settled : goal.returns-then-not-count-clause-settled
returns-then-not-count-clause-settled g c =
    uncounted c.prefix-prefix.result.now (prefix c.args.name.now) c.prefix-prefix.ensures (λ m. sum_by m.value c.args.values.now) none c.self.inside.accounts c.args.self.now.holdings (ap (λ (b : Bounded). b.holdings) c.self.view_is) c.add.result c.count.result c.count.ensures c.if-not-count.true

pub returns-then-not-count-clause-within : goal.returns-then-not-count-clause-within
returns-then-not-count-clause-within g c =
    uncounted_within c.prefix-prefix.result.now (prefix c.args.name.now) c.prefix-prefix.ensures (λ m. sum_by m.value c.args.values.now) none c.self.inside.accounts c.args.self.now.holdings (ap (λ (b : Bounded). b.holdings) c.self.view_is) c.add.result c.count.result c.count.ensures c.if-not-count.true

pub returns-clause-settled : goal.returns-clause-settled
returns-clause-settled g c =
    settled_as c.prefix-prefix.result.now (prefix c.args.name.now) c.prefix-prefix.ensures (λ m. sum_by m.value c.args.values.now) none c.self.inside.accounts c.args.self.now.holdings (ap (λ (b : Bounded). b.holdings) c.self.view_is) _ (record {
      gain_handles = c.values_count.ensures.handles;
      gain_values = c.values_count.ensures.values;
      gain_octets = c.values_count.ensures.octets;
      back_handles = refl;
      back_values = refl;
      back_octets = refl;
    }) _ c.count_change.ensures

pub returns-clause-within : goal.returns-clause-within
returns-clause-within g c =
    within_as c.prefix-prefix.result.now (prefix c.args.name.now) c.prefix-prefix.ensures (λ m. sum_by m.value c.args.values.now) none c.self.inside.accounts c.args.self.now.holdings (ap (λ (b : Bounded). b.holdings) c.self.view_is) _ (record {
      gain_handles = c.values_count.ensures.handles;
      gain_values = c.values_count.ensures.values;
      gain_octets = c.values_count.ensures.octets;
      back_handles = refl;
      back_values = refl;
      back_octets = refl;
    }) (sym c.in_ok-permit.ensures.permitted)
