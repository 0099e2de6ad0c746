use Rattle.std.proofs.Common.{◌+◌, ◌∷◌, [], take}
use Rattle.hdl_value.specs.Refs.{place_of}
use Rattle.hdl_reach.specs.Seen.{places}
use Rattle.hdl_reach.specs.Found.{known_at}
use Rattle.hdl_reach.proofs.Growth.{places_next}
use Rattle.hdl_reach.proofs.Looks.{adds_next}
use Rattle.hdl_reach.proofs.Raises.{grows, raised_next, gained_then}
use Rattle.hdl_reach.proofs.found.Found.raise_all.Goals as goal

pub loop-one-preserved : goal.loop-one-preserved
loop-one-preserved c =
    let old = known_at c.args.self.now in
    let mid = known_at c.loop-one.self in
    let passed = places (take c.loop-one.one-index c.args.more.now) in
    let one = place_of c.one-item.result in
    let next = places_next c.args.more.now c.loop-one.one-index c.one-item.result c.loop-one-test.true c.one-item.is in
    record {
      known = raised_next old mid (known_at c.raise.new.self) passed (places (take (c.loop-one.one-index + 1) c.args.more.now)) one c.args.mask.0 c.loop-one.invariant.known c.in_ok-raise.ensures.known next;
      waiting = λ was. c.in_ok-raise.ensures.waiting (c.loop-one.invariant.waiting was);
      gained = gained_then c.args.self.now c.loop-one.self c.raise.new.self c.loop-one.invariant.gained c.in_ok-raise.ensures.gained
          (grows old mid passed c.args.mask.0 c.loop-one.invariant.known) (grows mid (known_at c.raise.new.self) (one ∷ []) c.args.mask.0 c.in_ok-raise.ensures.known);
      left = adds_next c.args.self.now c.loop-one.self c.raise.new.self passed (places (take (c.loop-one.one-index + 1) c.args.more.now)) one c.loop-one.invariant.left c.in_ok-raise.ensures.left
          (grows mid (known_at c.raise.new.self) (one ∷ []) c.args.mask.0 c.in_ok-raise.ensures.known) next;
    }
