use Rattle.std.proofs.Common.{List, [], subst}
use Rattle.hdl_value.specs.declared.admin.Reference.{Reference}
use Rattle.hdl_reach.specs.Seen.{places, Extends}
use Rattle.hdl_export.specs.Covers.{places_in}
use Rattle.hdl_export.proofs.Covered.{covered_next, referred_next, none_distinct, none_referred}
use Rattle.hdl_export.proofs.cover.Cover.of.Goals as goal

pub loop-row-init : goal.loop-row-init
loop-row-init c = record {
  kept = c.new-cover.ensures.kept;
  distinct = none_distinct c.new-cover.result.references.items c.new-cover.ensures.none;
  covered = tt;
  referred = none_referred c.new-cover.result.references.items [] c.new-cover.ensures.none;
}

pub loop-row-preserved : goal.loop-row-preserved
loop-row-preserved c =
    let old = places_in c.loop-row.cover in
    let new = places_in c.extend.new.self in
    let more = places c.in_ok-more.more.items in
    let grown = subst (λ (rs : List Reference). Extends old (places rs) new) c.deref.ensures.value c.in_ok-extend.ensures.extended in
    record {
      kept = c.in_ok-extend.ensures.kept;
      distinct = grown.distinct c.loop-row.invariant.distinct;
      covered = covered_next c.args.rows.now c.loop-row.row-index c.row-item.result old more new c.loop-row-test.true c.row-item.is c.in_ok-more.ensures grown c.loop-row.invariant.covered;
      referred = referred_next c.args.rows.now c.loop-row.row-index c.row-item.result old more new c.loop-row-test.true c.row-item.is c.in_ok-more.ensures grown c.loop-row.invariant.referred;
    }
