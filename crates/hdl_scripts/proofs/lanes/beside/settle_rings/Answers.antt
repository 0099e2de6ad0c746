use Rattle.std.proofs.Common.{◌≡◌, Option, Some, IfSome, subst}
use Rattle.std.proofs.lemmas.List.Elements.{All-pop}
use Rattle.hdl_scripts.specs.Same.{IsEach}
use Rattle.hdl_scripts.proofs.lanes.beside.settle_rings.Goals as goal

from_some : {X : Type 0} (P : X → Type 0) (r : Option X) (x : X) → r ≡ Some x → IfSome r P → P x
from_some P r x is p = subst (λ q. IfSome q P) is p

pub settle-unserved-requires : goal.settle-unserved-requires
settle-unserved-requires g c =
    let popped : IfSome c.pop.result (IsEach g.L.Made.ends) = (All-pop (IsEach g.L.Made.ends) c.args.beside.lanes.items _ _ c.pop.ensures.items c.args.beside.same).1 in
    c.requires c.in_ok-ends.ends (from_some (IsEach g.L.Made.ends) c.pop.result c.in_ok-ends.ends c.in_ok-ends.was popped)
