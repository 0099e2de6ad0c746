use Rattle.hdl_overflow_lane.proofs.JoiningLemmas.{says_reply_lem}
use Rattle.hdl_overflow_lane.proofs.laws.pieces_say_reply.Goals as goal

pub returns : goal.returns
returns c = says_reply_lem
