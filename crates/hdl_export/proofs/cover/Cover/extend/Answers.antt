use Rattle.std.proofs.Common.{take, sym, subst}
use Rattle.hdl_value.specs.Refs.{place_of}
use Rattle.hdl_reach.specs.Seen.{places, Extends}
use Rattle.hdl_reach.proofs.Growth.{extends_with, places_next}
use Rattle.hdl_export.specs.Covers.{places_in}
use Rattle.hdl_export.proofs.cover.Cover.extend.Goals as goal

pub loop-one-preserved : goal.loop-one-preserved
loop-one-preserved c =
    let old = places_in c.args.self.now in
    let new = places_in c.add.new.self in
    let more = extends_with old (places (take c.loop-one.one-index c.args.more.now)) (places_in c.loop-one.self) new (place_of c.one-item.result) c.loop-one.invariant.extended c.in_ok-add.ensures.added in
    record {
      kept = c.in_ok-add.ensures.kept;
      extended = subst (λ ps. Extends old ps new) (sym (places_next c.args.more.now c.loop-one.one-index c.one-item.result c.loop-one-test.true c.one-item.is)) more;
    }
