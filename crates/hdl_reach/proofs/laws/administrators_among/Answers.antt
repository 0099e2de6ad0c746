use Rattle.std.proofs.Common.{None, ⊎_elim}
use Rattle.hdl_rows.specs.Table.{values_of}
use Rattle.hdl_reach.specs.Reach.{grants}
use Rattle.hdl_reach.proofs.Agreement.{union_among}
use Rattle.hdl_reach.proofs.laws.administrators_among.Goals as goal

pub returns : goal.returns
returns c = λ t ps h onward all k m is some. ⊎_elim (λ here. here) (λ none. absurd (some none)) (union_among t t ps onward k None (grants (values_of t h)) m all is)
