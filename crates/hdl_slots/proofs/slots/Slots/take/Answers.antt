use Rattle.std.proofs.Common.{not, get_or}
use Rattle.std.proofs.lemmas.List.{set-get_or}
use Rattle.hdl_slots.specs.Lanes.{is_of}
use Rattle.hdl_slots.specs.Places.{places_of, contents}
use Rattle.hdl_slots.proofs.Lanes.{differ-filter}
use Rattle.hdl_slots.proofs.Places.{lane_state, states_become, lanes_kept}
use Rattle.hdl_slots.proofs.slots.Slots.take.Goals as goal

pub returns-clause-found : goal.returns-clause-found
returns-clause-found c =
    let at = lane_state c.self.inside.numbers.items c.self.inside.cells c.args.lane c.self.invariant c.requires in
    rw (← c.self.view_is, at) c.take.ensures.found

pub returns-clause-slots : goal.returns-clause-slots
returns-clause-slots c =
    let at = lane_state c.self.inside.numbers.items c.self.inside.cells c.args.lane c.self.invariant c.requires in
    rw (← c.self.view_is, at)
    (rw (set-get_or c.self.inside.numbers.items c.args.lane 0) at
    (states_become c.self.inside.numbers.items c.self.inside.cells c.take.new.cells c.args.lane (get_or c.self.inside.numbers.items c.args.lane 0) _ c.take.ensures.becomes))

pub invariant_of-self : goal.invariant_of-self
invariant_of-self c =
    rw (set-get_or c.self.inside.numbers.items c.args.lane 0) at
    (lanes_kept c.self.inside.numbers.items c.self.inside.cells c.take.new.cells c.args.lane (get_or c.self.inside.numbers.items c.args.lane 0) _ c.take.ensures.becomes c.self.invariant
    (differ-filter (λ x. not (is_of c.args.peer c.args.number x)) (contents (places_of c.self.inside.cells c.args.lane)) (c.self.invariant.each c.args.lane c.requires).differ))
