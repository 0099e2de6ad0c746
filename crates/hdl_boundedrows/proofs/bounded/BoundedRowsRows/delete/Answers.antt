use Rattle.std.proofs.Common.{ap, refl, ◌∙◌}
use Rattle.hdl_name.specs.Name.{canonical, prefix}
use Rattle.hdl_rows.specs.Table.{values_of}
use Rattle.hdl_boundedrows.specs.Amount.{in_handles, in_values, in_octets, with_handle}
use Rattle.hdl_limits.specs.Counts.{at_most_u64}
use Rattle.hdl_boundedrows.specs.Bounded.{Bounded, none}
use Rattle.hdl_boundedrows.proofs.Counts.{settled_as, uncounted}
use Rattle.hdl_boundedrows.proofs.bounded.BoundedRowsRows.delete.Goals as goal

pub returns-then-not-count-clause-settled : goal.returns-then-not-count-clause-settled
returns-then-not-count-clause-settled g c =
    uncounted c.prefix-prefix.result.now (prefix c.args.name.now) c.prefix-prefix.ensures none (λ m. with_handle m (canonical c.args.name.now) (values_of c.args.self.now.table (canonical c.args.name.now))) c.self.inside.accounts c.args.self.now.holdings (ap (λ (b : Bounded). b.holdings) c.self.view_is) c.delete.result c.count.result c.count.ensures c.if-not-count.true

pub returns-clause-settled : goal.returns-clause-settled
returns-clause-settled g c =
    let there = c.deref.ensures.value ∙ c.in_ok-held.ensures.found ∙ ap (λ (b : Bounded). values_of b.table (canonical c.args.name.now)) c.self.view_is in
    settled_as c.prefix-prefix.result.now (prefix c.args.name.now) c.prefix-prefix.ensures none (λ m. with_handle m (canonical c.args.name.now) (values_of c.args.self.now.table (canonical c.args.name.now))) c.self.inside.accounts c.args.self.now.holdings (ap (λ (b : Bounded). b.holdings) c.self.view_is) _ (record {
      gain_handles = refl;
      gain_values = refl;
      gain_octets = refl;
      back_handles = c.handle_count.ensures.handles ∙ (λ i. at_most_u64 (with_handle in_handles (c.canon.ensures i) (there i)));
      back_values = c.handle_count.ensures.values ∙ (λ i. at_most_u64 (with_handle in_values (c.canon.ensures i) (there i)));
      back_octets = c.handle_count.ensures.octets ∙ (λ i. at_most_u64 (with_handle in_octets (c.canon.ensures i) (there i)));
    }) _ c.count_change.ensures
