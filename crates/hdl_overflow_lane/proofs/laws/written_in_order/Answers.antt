use Rattle.hdl_overflow_lane.proofs.TalkLemmas.{writes_in_order_lem}
use Rattle.hdl_overflow_lane.proofs.laws.written_in_order.Goals as goal

pub returns : goal.returns
returns c = writes_in_order_lem
