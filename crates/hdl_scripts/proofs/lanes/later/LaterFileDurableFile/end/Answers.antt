use Rattle.std.proofs.Common.{subst}
use Rattle.sqlite.specs.Held.{state}
use Rattle.hdl_durablerows.specs.Durable.{Makes}
use Rattle.hdl_durablerows.specs.Writes.{write_of}
use Rattle.hdl_scripts.specs.Later.{StandsLater}
use Rattle.hdl_scripts.proofs.lanes.later.LaterFileDurableFile.end.Goals as goal

pub end-requires : goal.end-requires
end-requires g c =
    let t = c.requires.begun.0 in
    record { begun = (t, subst (λ b. StandsLater b (state g.S.Store c.args.self.now.file) (Makes t (write_of c.args.write.now))) c.if-self.true c.requires.begun.1) }

pub begin-requires : goal.begin-requires
begin-requires g c =
    let t = c.requires.begun.0 in
    let it = subst (λ b. StandsLater b (state g.S.Store c.args.self.now.file) (Makes t (write_of c.args.write.now))) c.if-self.false c.requires.begun.1 in
    record { can = (t, it.0, it.1) }
