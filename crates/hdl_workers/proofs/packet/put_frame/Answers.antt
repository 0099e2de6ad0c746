use Rattle.std.proofs.Common.{refl, ◌∙◌}
use Rattle.hdl_workers.proofs.Used.{stamps_both, stamps_still, stamp_one}
use Rattle.hdl_workers.proofs.packet.put_frame.Goals as goal

pub returns-then-has_room-clause-stamps : goal.returns-then-has_room-clause-stamps
returns-then-has_room-clause-stamps g c =
    stamps_both _ _ _ _ _ (stamps_still _ _ _ _ c.loop-line.invariant.answers c.loop-line.invariant.stamps (c.has_room.ensures.put ∙ c.loop-line.invariant.put))
    (stamps_both _ _ _ _ _ (stamp_one _ _ _ _ _ _ _ c.now-moment.ensures c.next-nonce.ensures c.put.ensures.put refl refl)
    (stamps_still _ _ _ _ c.note_work.ensures (λ _. refl) refl))

pub returns-clause-stamps : goal.returns-clause-stamps
returns-clause-stamps g c = stamps_still _ _ _ _ c.loop-line.invariant.answers c.loop-line.invariant.stamps c.loop-line.invariant.put
