use Rattle.std.proofs.Common.{sym, ◌∙◌, ap}
use Rattle.std.specs.Option.{option_map}
use Rattle.std.proofs.lemmas.Option.{slice_get-map}
use Rattle.hdl_tenants.specs.Record.{publisher_in, publishers_in}
use Rattle.hdl_tenants.proofs.Lanes.{so_far_here, so_far_more}
use Rattle.hdl_tenants.proofs.publishers.Publishers.owner.Goals as goal

pub returns-then-rest-shape : goal.returns-then-rest-shape
returns-then-rest-shape c =
    let ps = publishers_in c.self.inside.by_name.entries in
    rw (← c.self.view_is) (sym (so_far_here ps c.args.lane c.loop-place.place c.loop-place.rest c.loop-place.invariant (publisher_in (c.in_ok-shape.field-0-0.now, c.in_ok-shape.shape.now)) (slice_get-map publisher_in c.self.inside.by_name.entries c.loop-place.place ∙ ap (option_map publisher_in) (sym c.in_ok-shape.ensures.entry)) c.if-rest-shape.true))

pub loop-place-preserved : goal.loop-place-preserved
loop-place-preserved c =
    let ps = publishers_in c.self.inside.by_name.entries in
    so_far_more ps c.args.lane c.loop-place.place c.loop-place.rest c.loop-place.invariant (publisher_in (c.in_ok-shape.field-0-0.now, c.in_ok-shape.shape.now)) (slice_get-map publisher_in c.self.inside.by_name.entries c.loop-place.place ∙ ap (option_map publisher_in) (sym c.in_ok-shape.ensures.entry)) c.if-rest-shape.false
