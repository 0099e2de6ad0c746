use Rattle.std.proofs.Common.{option_map, sym, ap, ◌∙◌}
use Rattle.hdl_slots.specs.declared.pending.Challenge.{Challenge}
use Rattle.hdl_slots.specs.Lanes.{is_of}
use Rattle.hdl_slots.specs.Places.{places_of}
use Rattle.hdl_slots.proofs.Places.{none_found, first_found}
use Rattle.hdl_slots.proofs.lane.find.Goals as goal

pub returns-in_err-place : goal.returns-in_err-place
returns-in_err-place c =
    rw c.from_residual.ensures
    (sym (ap (option_map (λ (x : Challenge). x.pending)) (none_found (is_of c.args.peer c.args.number) (places_of c.args.cells.now c.args.lane) c.in_err-place.ensures)))

pub returns : goal.returns
returns c =
    ap (option_map (λ (x : Challenge). x.pending))
    (c.in_ok-challenge.ensures ∙ sym (first_found (is_of c.args.peer c.args.number) (places_of c.args.cells.now c.args.lane) c.in_ok-place.place c.in_ok-place.ensures))
