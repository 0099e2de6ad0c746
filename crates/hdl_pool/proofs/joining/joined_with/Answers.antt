use Rattle.std.proofs.Common.{sym, ap, ◌∙◌}
use Rattle.hdl_pool.proofs.JoinedLemmas.{items_of, joins_given, joins_other, joins_none}
use Rattle.hdl_pool.proofs.joining.joined_with.Goals as goal
use Rattle.hdl_pool.proofs.joining.joined_with.Goals.{then-k-number+in_ok-extend_from_slice, else-k-number+in-Some+in_ok-extend_from_slice-2}

pub returns-in_default : goal.returns-in_default
returns-in_default c = sym (joins_none c.args.payloads.now c.args.number c.loop-k.k c.args.payload.now c.loop-k.message.items c.index-payloads-k.result _ c.loop-k-test.true c.if-k-number.false c.index-payloads-k.is c.in_default.is c.loop-k.invariant)

pub loop-k-preserved : goal.loop-k-preserved
loop-k-preserved c =
    elim c.if-k-number.branch [
      | then-k-number+in_ok-extend_from_slice w ↦ joins_given c.args.payloads.now c.args.number c.loop-k.k c.args.payload.now c.loop-k.message.items c.if-k-number.message.items _ c.loop-k-test.true w.if-k-number.true (ap items_of w.message-is ∙ w.in_ok-extend_from_slice.ensures.items) c.loop-k.invariant
      | else-k-number+in-Some+in_ok-extend_from_slice-2 w ↦ joins_other c.args.payloads.now c.args.number c.loop-k.k c.args.payload.now c.loop-k.message.items c.if-k-number.message.items c.index-payloads-k.result w.in-Some.stored _ c.loop-k-test.true w.if-k-number.false c.index-payloads-k.is w.in-Some.is
          (ap items_of w.message-is ∙ rw w.deref.ensures.value at w.in_ok-extend_from_slice-2.ensures.items) c.loop-k.invariant
    ]
