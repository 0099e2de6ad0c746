use Rattle.std.proofs.Common.{ap, ◌∙◌}
use Rattle.hdl_pool.specs.Partial.{piece_of}
use Rattle.hdl_pool.specs.Taking.{take_piece}
use Rattle.hdl_core.proofs.Answered.{on_ok}
use Rattle.hdl_core.proofs.HeldLanes.{within, partials_are, repooled}
use Rattle.hdl_core.proofs.Opened as opened
use Rattle.hdl_core.proofs.lanes.Lanes.take_piece.Goals as goal

pub take-requires-clause-lane : goal.take-requires-clause-lane
take-requires-clause-lane c = within c.args.self.now c.self.inside.lanes.items c.self.inside.pool c.self.inside.slots c.args.lane c.self.view_is c.self.invariant.0 c.self.invariant.1 c.self.invariant.2 c.requires.there

pub returns-clause-fate : goal.returns-clause-fate
returns-clause-fate c =
    let same = partials_are c.args.self.now c.self.inside.lanes.items c.self.inside.pool c.self.inside.slots c.args.lane c.self.view_is c.self.invariant.0 c.self.invariant.1 c.self.invariant.2 c.requires.there in
    on_ok c.take.result _ _ (λ t is. is ∙ ap (λ partials. (take_piece partials (piece_of c.args.peer c.args.frame.now.bytes.now)).0) same) c.take.ensures.fate

pub returns-clause-lanes : goal.returns-clause-lanes
returns-clause-lanes c =
    opened.on_ok c.take.result _ _
    (λ is. repooled c.args.self.now c.self.inside.lanes.items c.self.inside.pool c.self.inside.slots c.args.lane c.self.view_is c.self.invariant.0 c.self.invariant.1 c.self.invariant.2 c.requires.there (λ partials. (take_piece partials (piece_of c.args.peer c.args.frame.now.bytes.now)).1) c.take.new.self is)
    c.take.ensures.lanes
