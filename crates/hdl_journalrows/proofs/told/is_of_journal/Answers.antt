use Rattle.std.proofs.Common.{subst, sym, ◌∙◌}
use Rattle.hdl_durablerows.specs.Durable.{IsNear}
use Rattle.hdl_rows.specs.Table.{no_rows}
use Rattle.hdl_journal.specs.Journal.{after_writes}
use Rattle.hdl_journalrows.proofs.Standing.{near, exact, not_shut}
use Rattle.hdl_journalrows.proofs.told.is_of_journal.Goals as goal

pub returns-clause-near : goal.returns-clause-near
returns-clause-near g c =
    let it = c.stands_beside.ensures in
    let rows = c.args.rows.now in
    subst (λ owed. IsNear rows.table owed (after_writes no_rows (g.J.Journal.told rows.file.journal))) (sym it.owed) (near (g.J.Journal.told rows.file.journal) rows.table it.pending it.backing.file)

pub returns-clause-exact : goal.returns-clause-exact
returns-clause-exact g c = exact (g.J.Journal.told c.args.rows.now.file.journal) c.args.rows.now.table c.args.rows.now.owed (returns-clause-near g c)

pub returns-clause-open : goal.returns-clause-open
returns-clause-open g c =
    let it = c.stands_beside.ensures in
    it.shut ∙ not_shut (g.J.Journal.told c.args.rows.now.file.journal) c.args.rows.now.table it.pending it.backing.file
