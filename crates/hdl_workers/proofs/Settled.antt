-- The two ends of a ring once both threads were joined.
use Rattle.std.proofs.Common.{sym, ◌∙◌}
use Rattle.hdl_lanes.specs.Lane.{AreEnds, AreEnded, IsEndOf, SameInlet, SameOutlet}
use Rattle.hdl_lanes.specs.declared.Inlet.{Inlet}
use Rattle.hdl_lanes.specs.declared.Ended.{Ended}
use Rattle.hdl_lanes.specs.declared.outlet.Outlet.{Outlet}

-- an end that was used, or has ended, is still one of the two ends of its ring
module _ {T : Type 0} where
  pub still_put : (a b : Inlet T) (o : Outlet T) → AreEnds a o → SameInlet a b → AreEnds b o
  still_put a b o p q = (p.0 ∙ sym q.0.0, p.1 ∙ sym q.0.1, p.2 ∙ sym q.0.2, p.3 ∙ sym q.0.3)

  pub still_taken : (a : Inlet T) (o p : Outlet T) → AreEnds a o → SameOutlet o p → AreEnds a p
  still_taken a o p e q = (q.0.0 ∙ e.0, q.0.1 ∙ e.1, q.0.2 ∙ e.2, q.0.3 ∙ e.3)

  pub still_ended : (a : Inlet T) (e : Ended T) (o : Outlet T) → AreEnds a o → IsEndOf a e → AreEnded e o
  still_ended a e o p q = (p.0 ∙ sym q.0.0.0, p.1 ∙ sym q.0.0.1, p.2 ∙ sym q.0.0.2, p.3 ∙ sym q.0.0.3)

pub ruleset still = (still_put, still_taken, still_ended)
