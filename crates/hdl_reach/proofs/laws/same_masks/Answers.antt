use Rattle.std.proofs.Common.{None, subst, sym}
use Rattle.hdl_rows.specs.Table.{values_of}
use Rattle.hdl_reach.specs.Reach.{grants, IsUnion}
use Rattle.hdl_reach.proofs.Agreement.{union_agrees, union_agreed}
use Rattle.hdl_reach.proofs.laws.same_masks.Goals as goal

pub returns : goal.returns
returns c = λ t u ps h onward agree same all k m. (
  (λ is. subst (λ vs. IsUnion u k None (grants vs) m) same (union_agrees t u ps onward agree k None (grants (values_of t h)) m all is)),
  (λ is. union_agreed t u ps onward agree k None (grants (values_of t h)) m all (subst (λ vs. IsUnion u k None (grants vs) m) (sym same) is)),
)
