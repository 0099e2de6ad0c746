use Rattle.hdl_overflow_lane.proofs.TalkLemmas.{hands_in_order_lem, hands_all_lem}
use Rattle.hdl_overflow_lane.proofs.laws.handed_in_order.Goals as goal

pub returns-clause-beginning : goal.returns-clause-beginning
returns-clause-beginning c = hands_in_order_lem

pub returns-clause-whole : goal.returns-clause-whole
returns-clause-whole c = hands_all_lem
