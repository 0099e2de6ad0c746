use Rattle.std.proofs.Common.{subst}
use Rattle.hdl_rows.specs.Write.{after_write}
use Rattle.hdl_durablerows.specs.Pending.{standing}
use Rattle.hdl_durablerows.specs.Writes.{write_in}
use Rattle.hdl_durablerows.proofs.backing_file.BackingFile.next.Goals as goal

pub start-requires : goal.start-requires
start-requires g c =
    let t = g.R.Rows.content c.args.rows.now in
    record { can = (t, subst (λ p. g.F.DurableFile.stands c.args.self.now.file (standing t p)) c.in-Nothing.is c.requires.stands.file, c.requires.can) }

pub claim-requires : goal.claim-requires
claim-requires g c =
    let t = g.R.Rows.content c.args.rows.now in
    record { begun = (t, subst (λ p. g.F.DurableFile.stands c.args.self.now.file (standing t p)) c.in-Begun.is c.requires.stands.file) }

pub claim_undo-requires : goal.claim_undo-requires
claim_undo-requires g c =
    let t = g.R.Rows.content c.args.rows.now in
    record { begun = (after_write t (write_in c.in-Undoing.own), subst (λ p. g.F.DurableFile.stands c.args.self.now.file (standing t p)) c.in-Undoing.is c.requires.stands.file) }
