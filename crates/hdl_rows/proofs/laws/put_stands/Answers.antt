use Rattle.hdl_rows.proofs.Writes.{put_stands_lem}
use Rattle.hdl_rows.proofs.laws.put_stands.Goals as goal

pub returns : goal.returns
returns c = put_stands_lem
