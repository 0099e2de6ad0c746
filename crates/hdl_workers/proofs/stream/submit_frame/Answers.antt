use Rattle.std.proofs.Common.{refl}
use Rattle.hdl_workers.proofs.Used.{stamps_both, stamps_still, stamp_one}
use Rattle.hdl_workers.proofs.stream.submit_frame.Goals as goal

pub returns-clause-stamps : goal.returns-clause-stamps
returns-clause-stamps g c =
    stamps_both _ _ _ _ _ (stamps_still _ _ _ _ c.await_room.ensures.answers (λ _. refl) c.await_room.ensures.put)
    (stamp_one _ _ _ _ _ _ _ c.now-moment.ensures c.next-nonce.ensures c.put.ensures.put refl refl)
