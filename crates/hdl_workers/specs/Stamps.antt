-- Moments and nonces on their way into frames.
use Rattle.std.specs.Prelude.{List, IsTrue}
use Rattle.hdl_workers.specs.declared.door.LoopClock
use Rattle.hdl_workers.specs.declared.door.Nonces
use Rattle.hdl_workers.specs.declared.item.Item.{Item}
use Rattle.hdl_workers.specs.Sign.{MomentsUsed, NoncesUsed}

-- Between two moments, each seen as the clock, the source and what was put: each moment that the clock gave and each nonce that the source gave went into
-- one frame, in order.
pub record StampsUsed {C N : Type 0} (c : LoopClock.Ghosts C) (n : Nonces.Ghosts N) (before after : C × N × List Item) : Type 0 where
  pub moments : IsTrue c.is_observed → MomentsUsed (c.answers before.0) before.2 (c.answers after.0) after.2
  pub nonces : IsTrue n.is_observed → NoncesUsed (n.answers before.1) before.2 (n.answers after.1) after.2
