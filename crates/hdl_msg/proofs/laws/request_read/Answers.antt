use Rattle.hdl_msg.proofs.Requests.{request_again}
use Rattle.hdl_msg.proofs.laws.request_read.Goals as goal

pub returns : goal.returns
returns c = λ w octets d s. request_again w octets d s
