use Rattle.std.proofs.Common.{◌∙◌, ap, sym, length, arith}
use Rattle.hdl_core.proofs.HeldLanes.{length-held_lanes}
use Rattle.hdl_core.proofs.lanes.Lanes.len.Goals as goal

pub returns : goal.returns
returns c =
    c.len.ensures ∙ c.self.inside.lanes.ok.0 ∙ sym (length-held_lanes c.self.inside.lanes.items c.self.inside.pool c.self.inside.slots (omega (arith, c.self.invariant.0, c.self.invariant.1)) (omega (arith, c.self.invariant.0, c.self.invariant.2))) ∙ ap length c.self.view_is
