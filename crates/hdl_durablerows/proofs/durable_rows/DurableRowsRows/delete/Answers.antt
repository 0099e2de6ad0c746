use Rattle.std.proofs.Common.{sym, subst}
use Rattle.hdl_name.specs.Name.{canonical}
use Rattle.hdl_rows.specs.Write.{CanWrite, Delete}
use Rattle.hdl_durablerows.specs.Pending.{IsBacking}
use Rattle.hdl_durablerows.proofs.Settled.{can_seen, settled}
use Rattle.hdl_durablerows.proofs.durable_rows.DurableRowsRows.delete.Goals as goal

pub bring-requires-clause-can : goal.bring-requires-clause-can
bring-requires-clause-can g c = can_seen _ _ (Delete (canonical c.args.name.now)) c.self.view_is c.requires.there

pub invariant_of-self-2 : goal.invariant_of-self-2
invariant_of-self-2 g c =
    let w = Delete (canonical c.args.name.now) in
    let stands = g.F.DurableFile.stands c.bring.new.backing.file in
    let backing = subst (λ t. IsBacking stands t c.bring.new.backing.pending) (sym c.bring.ensures.unchanged) c.bring.ensures.stands in
    let can = subst (λ t. CanWrite t w) (sym c.bring.ensures.unchanged) (can_seen _ _ w c.self.view_is c.requires.there) in
    settled c.bring.new.backing.pending c.claim.new.pending w c.in_ok-bring.ensures.ahead c.delete-done.result stands (g.R.Rows.content c.bring.new.rows) (g.R.Rows.content c.delete-done.new.self) backing can c.delete-done.ensures.done c.delete-done.ensures.undone c.claim.ensures.claimed
