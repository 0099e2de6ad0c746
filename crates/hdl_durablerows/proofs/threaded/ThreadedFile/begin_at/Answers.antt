use Rattle.std.proofs.Common.{subst}
use Rattle.hdl_rows.specs.Table.{Table}
use Rattle.hdl_rows.specs.Write.{CanWrite}
use Rattle.hdl_durablerows.specs.Durable.{Keeps}
use Rattle.hdl_durablerows.specs.Writes.{write_of}
use Rattle.hdl_durablerows.specs.Threaded.{StandsAt}
use Rattle.hdl_durablerows.proofs.threaded.ThreadedFile.begin_at.Goals as goal

pub hand_over-requires : goal.hand_over-requires
hand_over-requires g c = record { can = subst (λ p. (t : Table) × StandsAt p (Keeps t) × CanWrite t (write_of c.args.write.now)) c.in-Here.is c.requires.can }

pub make_here-requires : goal.make_here-requires
make_here-requires g c = record { can = subst (λ p. (t : Table) × StandsAt p (Keeps t) × CanWrite t (write_of c.args.write.now)) c.in-Here.is c.requires.can }

pub returns-then-self : goal.returns-then-self
returns-then-self g c t kept can = c.hand_over.ensures t (subst (λ p. StandsAt p (Keeps t)) c.in-Here.is kept) can

pub returns-else-self : goal.returns-else-self
returns-else-self g c t kept can = c.make_here.ensures t (subst (λ p. StandsAt p (Keeps t)) c.in-Here.is kept) can
