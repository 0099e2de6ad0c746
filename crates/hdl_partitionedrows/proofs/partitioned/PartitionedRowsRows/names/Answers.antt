use Rattle.std.proofs.Common.{ap, ◌∙◌}
use Rattle.hdl_rows.specs.Table.{Held, names_of}
use Rattle.hdl_partitionedrows.specs.Partitioned.{is_second, merged}
use Rattle.hdl_partitionedrows.proofs.Names.{names_joined}
use Rattle.hdl_partitionedrows.proofs.partitioned.PartitionedRowsRows.names.Goals as goal

pub returns-clause-found : goal.returns-clause-found
returns-clause-found g c =
    let authority = c.args.authority.now in
    let first = c.in_ok-first.ensures.found ∙ ap (λ t. names_of (g.R.Rows.content t) authority) c.deref_mut.ensures.value in
    let second = c.in_ok-second.ensures.found ∙ ap (λ t. names_of (g.R.Rows.content t) authority) c.deref_mut-2.ensures.value in
    c.in-Ok.ensures
    ∙ (λ i. merged (first i) (second i))
    ∙ names_joined (is_second c.self.inside.fork) (g.R.Rows.content c.self.inside.first.value) (g.R.Rows.content c.self.inside.second.value) authority c.self.invariant.0 c.self.invariant.1
    ∙ ap (λ (s : Held). names_of s.table authority) c.self.view_is
