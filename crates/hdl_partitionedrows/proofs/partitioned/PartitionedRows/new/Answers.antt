use Rattle.std.proofs.Common.{◌≡◌, true, false, sym, ap, ◌∙◌, subst}
use Rattle.hdl_rows.specs.Table.{Table}
use Rattle.hdl_partitionedrows.specs.Partitioned.{is_second, own, joined}
use Rattle.hdl_partitionedrows.proofs.Joined.{own_none, joined_none}
use Rattle.hdl_partitionedrows.proofs.partitioned.PartitionedRows.new.Goals as goal

pub invariant_of-result : goal.invariant_of-result
invariant_of-result g c =
    let is = is_second c.args.fork in (
      subst (λ (t : Table). own is false t ≡ t.handles) (sym (ap g.R.Rows.content c.in_ok-new.ensures.ok ∙ c.requires.first)) (own_none is false),
      subst (λ (t : Table). own is true t ≡ t.handles) (sym (ap g.R.Rows.content c.in_ok-new-2.ensures.ok ∙ c.requires.second)) (own_none is true),
    )

pub returns : goal.returns
returns g c =
    let first = ap g.R.Rows.content c.in_ok-new.ensures.ok ∙ c.requires.first in
    let second = ap g.R.Rows.content c.in_ok-new-2.ensures.ok ∙ c.requires.second in
    (λ i. joined (is_second c.args.fork) (first i) (second i)) ∙ joined_none (is_second c.args.fork)
