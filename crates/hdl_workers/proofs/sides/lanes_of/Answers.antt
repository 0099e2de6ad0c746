use Rattle.std.proofs.Common.{refl, rules, arith}
use Rattle.hdl_workers.proofs.Distinct.{distinct_more, lanes_more}
use Rattle.hdl_workers.proofs.sides.lanes_of.Goals as goal

pub loop-number-preserved : goal.loop-number-preserved
loop-number-preserved c =
    let ends = c.loop-number.ends.items in
    let number = c.loop-number.number in
    let lanes = lanes_more 0 number ends c.loop-number.sides.items _ _ c.loop-number.invariant.lanes (omega (arith, c.loop-number.invariant.count)) refl
    (c.in_ok-inlet.ensures.ends, c.in_ok-given.ensures.ends, c.in_ok-inlet.ensures.empty.1, c.in_ok-given.ensures.empty.0) in
    let more = distinct_more ends _ number refl c.loop-number.invariant.distinct c.loop-number.invariant.below in
    rw c.in_ok-push.ensures.items (record {
      distinct = more.0;
      below = more.1;
      lanes = rw c.in_ok-push-2.ensures.items lanes;
      count = search (rules, c.loop-number.invariant.count);
    })
