use Rattle.hdl_ops.proofs.Codes.{tells_by_code_lem}
use Rattle.hdl_ops.proofs.laws.tells_by_code.Goals as goal

pub returns : goal.returns
returns c = tells_by_code_lem
