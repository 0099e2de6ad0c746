use Rattle.hdl_msg.proofs.ResponseCodes.{response_code_again}
use Rattle.hdl_msg.proofs.laws.response_numbered.Goals as goal

pub returns : goal.returns
returns c = response_code_again
