use Rattle.std.proofs.Common.{rules}
use Rattle.std.proofs.lemmas.Bool.{ne_eqb}
use Rattle.arrayvec.proofs.ArrayVecLemmas.{filter-from_retain}
use Rattle.hdl_peers.proofs.KeptLemmas.{response_of_eq}
use Rattle.hdl_peers.proofs.lane_history.LaneHistory.redeem.Goals as goal

pub returns-then-code-ne-MALFORMED-clause-challenges : goal.returns-then-code-ne-MALFORMED-clause-challenges
returns-then-code-ne-MALFORMED-clause-challenges c =
    rw (response_of_eq c.args.operation c.eq.result c.eq.ensures c.if-eq.true, ne_eqb c.args.code 4 c.if-code-ne-MALFORMED.true)
    (filter-from_retain _ _ _ (λ x b f' y called. search rules) _ _ c.retain.ensures.filtered)
