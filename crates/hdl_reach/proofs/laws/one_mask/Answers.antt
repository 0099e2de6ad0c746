use Rattle.std.proofs.Common.{None}
use Rattle.hdl_rows.specs.Table.{values_of}
use Rattle.hdl_reach.specs.Reach.{grants}
use Rattle.hdl_reach.proofs.Agreement.{one_union}
use Rattle.hdl_reach.proofs.laws.one_mask.Goals as goal

pub returns : goal.returns
returns c = λ t h k m n a b. one_union t k None (grants (values_of t h)) m n a b
