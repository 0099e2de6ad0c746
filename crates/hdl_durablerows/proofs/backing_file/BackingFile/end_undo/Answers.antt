use Rattle.std.proofs.Common.{sym, subst}
use Rattle.hdl_durablerows.specs.Durable.{Makes}
use Rattle.hdl_durablerows.proofs.backing_file.BackingFile.end_undo.Goals as goal

pub end-state-requires : goal.end-state-requires
end-state-requires g c = record { begun = (c.requires.begun.0, subst (λ w. g.F.DurableFile.stands c.args.self.now.file (Makes c.requires.begun.0 w)) (sym c.as_write.ensures) c.requires.begun.1) }
