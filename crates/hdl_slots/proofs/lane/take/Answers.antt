use Rattle.std.proofs.Common.{option_map, sym, ap, ◌∙◌}
use Rattle.hdl_slots.specs.declared.pending.Challenge.{Challenge}
use Rattle.hdl_slots.specs.Lanes.{is_of}
use Rattle.hdl_slots.specs.Places.{places_of}
use Rattle.hdl_slots.proofs.Places.{none_found, first_found, only_of_number, drops_none, drops_first}
use Rattle.hdl_slots.proofs.lane.take.Goals as goal

pub returns-in_err-place-clause-found : goal.returns-in_err-place-clause-found
returns-in_err-place-clause-found c =
    rw c.from_residual.ensures
    (sym (ap (option_map (λ (x : Challenge). x.pending)) (none_found (is_of c.args.peer c.args.number) (places_of c.args.cells.now c.args.lane) c.in_err-place.ensures)))

pub returns-in_err-place-clause-becomes : goal.returns-in_err-place-clause-becomes
returns-in_err-place-clause-becomes c = drops_none (is_of c.args.peer c.args.number) c.args.cells.now c.args.lane c.requires.places.eight c.in_err-place.ensures

pub returns-clause-found : goal.returns-clause-found
returns-clause-found c =
    ap (option_map (λ (x : Challenge). x.pending))
    (c.in_ok-challenge.ensures.was ∙ sym (first_found (is_of c.args.peer c.args.number) (places_of c.args.cells.now c.args.lane) c.in_ok-place.place c.in_ok-place.ensures))

pub returns-clause-becomes : goal.returns-clause-becomes
returns-clause-becomes c =
    drops_first (is_of c.args.peer c.args.number) c.args.number (only_of_number c.args.peer c.args.number) c.args.cells.now c.replace.new.self c.args.lane c.in_ok-place.place
    c.requires.places c.in_ok-place.ensures c.replace.ensures.cells
