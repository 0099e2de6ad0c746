use Rattle.std.proofs.Common.{rules}
use Rattle.arrayvec.proofs.ArrayVecLemmas.{filter-from_retain}
use Rattle.hdl_peers.proofs.lane_history.LaneHistory.end.Goals as goal

pub returns-then-exchange-clause-partials : goal.returns-then-exchange-clause-partials
returns-then-exchange-clause-partials c = rw c.if-exchange.true (filter-from_retain _ _ _ (λ x b f' y called. search rules) _ _ c.retain.ensures.filtered)
