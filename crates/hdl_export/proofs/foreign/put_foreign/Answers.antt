use Rattle.std.proofs.Common.{map, ◌∙◌}
use Rattle.hdl_export.proofs.ForeignRows.{put_next, writable_next}
use Rattle.hdl_export.proofs.foreign.put_foreign.Goals as goal

pub loop-here-preserved : goal.loop-here-preserved
loop-here-preserved g c =
    let prefixes = map (λ p. p.now) c.args.prefixes.now in
    let t = g.R.Rows.content c.args.rows.now in
    let put = rw c.loop-here.invariant.stays at c.in_ok-put_place.ensures.put in
    let writable = rw c.loop-here.invariant.stays at c.in_ok-put_place.ensures.writable in
    record {
      stays = c.put_place.ensures.unchanged ∙ c.loop-here.invariant.stays;
      put = put_next prefixes t c.args.references.now c.loop-here.here-index c.here-item.result c.args.out.now.items c.loop-here.out.items c.put_place.new.out.items c.loop-here-test.true c.here-item.is c.loop-here.invariant.put put;
      writable = writable_next prefixes t c.args.references.now c.loop-here.here-index c.here-item.result c.loop-here-test.true c.here-item.is c.loop-here.invariant.writable writable;
    }
