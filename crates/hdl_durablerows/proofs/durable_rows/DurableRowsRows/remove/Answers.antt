use Rattle.std.proofs.Common.{sym, subst}
use Rattle.hdl_name.specs.Name.{canonical}
use Rattle.hdl_rows.specs.Write.{CanWrite, Remove}
use Rattle.hdl_durablerows.specs.Pending.{IsBacking}
use Rattle.hdl_durablerows.proofs.Settled.{can_seen, settled}
use Rattle.hdl_durablerows.proofs.durable_rows.DurableRowsRows.remove.Goals as goal

pub bring-requires-clause-can : goal.bring-requires-clause-can
bring-requires-clause-can g c = can_seen _ _ (Remove (canonical c.args.name.now) c.args.indexes.now) c.self.view_is (c.requires.there, c.requires.distinct, c.requires.taken)

pub invariant_of-self-2 : goal.invariant_of-self-2
invariant_of-self-2 g c =
    let w = Remove (canonical c.args.name.now) c.args.indexes.now in
    let stands = g.F.DurableFile.stands c.bring.new.backing.file in
    let backing = subst (λ t. IsBacking stands t c.bring.new.backing.pending) (sym c.bring.ensures.unchanged) c.bring.ensures.stands in
    let can = subst (λ t. CanWrite t w) (sym c.bring.ensures.unchanged) (can_seen _ _ w c.self.view_is (c.requires.there, c.requires.distinct, c.requires.taken)) in
    settled c.bring.new.backing.pending c.claim.new.pending w c.in_ok-bring.ensures.ahead c.remove-done.result stands (g.R.Rows.content c.bring.new.rows) (g.R.Rows.content c.remove-done.new.self) backing can c.remove-done.ensures.done c.remove-done.ensures.undone c.claim.ensures.claimed
