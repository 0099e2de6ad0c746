use Rattle.std.proofs.Common.{subst}
use Rattle.hdl_rows.specs.Table.{Table}
use Rattle.hdl_durablerows.specs.Durable.{Makes}
use Rattle.hdl_durablerows.specs.Writes.{write_of}
use Rattle.hdl_durablerows.specs.Threaded.{StandsAt}
use Rattle.hdl_durablerows.proofs.threaded.ThreadedFile.end_at.Goals as goal

pub end_here-requires : goal.end_here-requires
end_here-requires g c = record { begun = subst (λ p. (t : Table) × StandsAt p (Makes t (write_of c.args.write.now))) c.in-Here.is c.requires.begun }

pub returns-in-Here : goal.returns-in-Here
returns-in-Here g c t made = c.end_here.ensures t (subst (λ p. StandsAt p (Makes t (write_of c.args.write.now))) c.in-Here.is made)

pub returns-in-Away : goal.returns-in-Away
returns-in-Away g c t made = c.end_away.ensures t (subst (λ p. StandsAt p (Makes t (write_of c.args.write.now))) c.in-Away.is made)
