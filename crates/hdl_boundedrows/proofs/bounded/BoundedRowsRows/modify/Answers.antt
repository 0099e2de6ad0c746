use Rattle.std.proofs.Common.{ap, sym, ◌∙◌, sum_by}
use Rattle.hdl_name.specs.Name.{canonical, prefix}
use Rattle.hdl_rows.specs.Table.{values_of, indexes}
use Rattle.hdl_boundedrows.specs.Amount.{in_handles, in_values, in_octets, values_at}
use Rattle.hdl_limits.specs.Counts.{at_most_u64}
use Rattle.hdl_boundedrows.specs.Bounded.{Bounded}
use Rattle.hdl_boundedrows.proofs.Counts.{settled_as, within_as, uncounted, uncounted_within}
use Rattle.hdl_boundedrows.proofs.bounded.BoundedRowsRows.modify.Goals as goal

pub returns-then-not-count-clause-settled : goal.returns-then-not-count-clause-settled
returns-then-not-count-clause-settled g c =
    uncounted c.prefix-prefix.result.now (prefix c.args.name.now) c.prefix-prefix.ensures (λ m. sum_by m.value c.args.values.now) (λ m. values_at m (values_of c.args.self.now.table (canonical c.args.name.now)) (indexes c.args.values.now)) c.self.inside.accounts c.args.self.now.holdings (ap (λ (b : Bounded). b.holdings) c.self.view_is) c.modify.result c.count.result c.count.ensures c.if-not-count.true

pub returns-then-not-count-clause-within : goal.returns-then-not-count-clause-within
returns-then-not-count-clause-within g c =
    uncounted_within c.prefix-prefix.result.now (prefix c.args.name.now) c.prefix-prefix.ensures (λ m. sum_by m.value c.args.values.now) (λ m. values_at m (values_of c.args.self.now.table (canonical c.args.name.now)) (indexes c.args.values.now)) c.self.inside.accounts c.args.self.now.holdings (ap (λ (b : Bounded). b.holdings) c.self.view_is) c.modify.result c.count.result c.count.ensures c.if-not-count.true

pub returns-clause-settled : goal.returns-clause-settled
returns-clause-settled g c =
    let there = c.deref.ensures.value ∙ c.in_ok-held.ensures.found ∙ ap (λ (b : Bounded). values_of b.table (canonical c.args.name.now)) c.self.view_is in
    settled_as c.prefix-prefix.result.now (prefix c.args.name.now) c.prefix-prefix.ensures (λ m. sum_by m.value c.args.values.now) (λ m. values_at m (values_of c.args.self.now.table (canonical c.args.name.now)) (indexes c.args.values.now)) c.self.inside.accounts c.args.self.now.holdings (ap (λ (b : Bounded). b.holdings) c.self.view_is) _ (record {
      gain_handles = c.values_count.ensures.handles;
      gain_values = c.values_count.ensures.values;
      gain_octets = c.values_count.ensures.octets;
      back_handles = c.count_of_replaced.ensures.handles ∙ ap (λ vs. at_most_u64 (values_at in_handles vs (indexes c.args.values.now))) there;
      back_values = c.count_of_replaced.ensures.values ∙ ap (λ vs. at_most_u64 (values_at in_values vs (indexes c.args.values.now))) there;
      back_octets = c.count_of_replaced.ensures.octets ∙ ap (λ vs. at_most_u64 (values_at in_octets vs (indexes c.args.values.now))) there;
    }) _ c.count_change.ensures

pub returns-clause-within : goal.returns-clause-within
returns-clause-within g c =
    let there = c.deref.ensures.value ∙ c.in_ok-held.ensures.found ∙ ap (λ (b : Bounded). values_of b.table (canonical c.args.name.now)) c.self.view_is in
    within_as c.prefix-prefix.result.now (prefix c.args.name.now) c.prefix-prefix.ensures (λ m. sum_by m.value c.args.values.now) (λ m. values_at m (values_of c.args.self.now.table (canonical c.args.name.now)) (indexes c.args.values.now)) c.self.inside.accounts c.args.self.now.holdings (ap (λ (b : Bounded). b.holdings) c.self.view_is) _ (record {
      gain_handles = c.values_count.ensures.handles;
      gain_values = c.values_count.ensures.values;
      gain_octets = c.values_count.ensures.octets;
      back_handles = c.count_of_replaced.ensures.handles ∙ ap (λ vs. at_most_u64 (values_at in_handles vs (indexes c.args.values.now))) there;
      back_values = c.count_of_replaced.ensures.values ∙ ap (λ vs. at_most_u64 (values_at in_values vs (indexes c.args.values.now))) there;
      back_octets = c.count_of_replaced.ensures.octets ∙ ap (λ vs. at_most_u64 (values_at in_octets vs (indexes c.args.values.now))) there;
    }) (sym c.in_ok-permit.ensures.permitted)
