use Rattle.std.proofs.Common.{◌+◌, ◌∙◌, ap, sym, arith}
use Rattle.std.specs.Option.{option_map}
use Rattle.std.proofs.lemmas.Option.{slice_get-map}
use Rattle.hdl_tenants.specs.Record.{publisher_in, publishers_in}
use Rattle.hdl_tenants.proofs.Lanes.{first_lane-more, first_lane-within}
use Rattle.hdl_tenants.proofs.publishers.Publishers.first_lane.Goals as goal

pub overflow_add-lane : goal.overflow_add-lane
overflow_add-lane c =
    let es = c.self.inside.by_name.entries in
    let p = publisher_in (c.in-Some.field-0-0.now, c.in-Some.shape.now) in
    let more = first_lane-more (publishers_in es) c.loop-before.before p (slice_get-map publisher_in es c.loop-before.before ∙ ap (option_map publisher_in) (sym c.in-Some.ensures.entry)) in
    omega (arith, more, c.loop-before.invariant, first_lane-within (publishers_in es) (c.loop-before.before + 1), c.self.invariant.total, c.self.invariant.few)

pub loop-before-preserved : goal.loop-before-preserved
loop-before-preserved c =
    let es = c.self.inside.by_name.entries in
    let p = publisher_in (c.in-Some.field-0-0.now, c.in-Some.shape.now) in
    let more = first_lane-more (publishers_in es) c.loop-before.before p (slice_get-map publisher_in es c.loop-before.before ∙ ap (option_map publisher_in) (sym c.in-Some.ensures.entry)) in
    ap (λ n. n + c.in-Some.shape.now.lanes) c.loop-before.invariant ∙ sym more
