use Rattle.hdl_slots.specs.Lanes.{has_number}
use Rattle.hdl_slots.proofs.Places.{only_its_number, drops_none, drops_first}
use Rattle.hdl_slots.proofs.lane.forget.Goals as goal

pub returns-in-Some : goal.returns-in-Some
returns-in-Some c =
    drops_first (has_number c.args.number) c.args.number (only_its_number c.args.number) c.args.cells.now c.replace.new.self c.args.lane c.in-Some.place c.requires.places
    c.in-Some.ensures c.replace.ensures.cells

pub returns-in_default : goal.returns-in_default
returns-in_default c = drops_none (has_number c.args.number) c.args.cells.now c.args.lane c.requires.places.eight c.in_default.ensures
