use Rattle.std.proofs.Common.{ℕ, List, [], All, map, ap, subst, ◌∙◌}
use Rattle.std.specs.Borrow.{Bor}
use Rattle.hdl_proxy.specs.Query.{IsIndex, index_of}
use Rattle.hdl_proxy.proofs.Texts.{nows, now_all, index_good, index_read, index_bad}
use Rattle.hdl_proxy.proofs.query.indexes_of.Goals as goal

pub loop-text-preserved : goal.loop-text-preserved
loop-text-preserved c =
    let d : Bor (List ℕ) = record { ref_ptr = (0, 0); now = [] } in
    record {
      good = index_good c.deref-text-items.result.now c.loop-text.text-index d c.loop-text-test.true c.in-Ok.ensures.value.0.0 c.loop-text.invariant.good;
      read = index_read c.deref-text-items.result.now c.loop-text.text-index d c.loop-text.indexes.items c.push.new.self.items c.in-Ok.index c.loop-text-test.true c.in-Ok.ensures.value.0.1 c.loop-text.invariant.read c.in_ok-push-in-Ok.ensures.items;
    }

pub returns-in-Err : goal.returns-in-Err
returns-in-Err c =
    let d : Bor (List ℕ) = record { ref_ptr = (0, 0); now = [] } in
    index_bad c.deref-text-items.result.now c.loop-text.text-index d _ c.loop-text-test.true c.in-Err.ensures.value.0 (ap nows c.deref-text-items.ensures.value ∙ c.in_ok-values.ensures)

pub returns : goal.returns
returns c =
    let whole = now_all c.deref-text-items.result.now c.loop-text.text-index c.loop-text-test.false ∙ ap nows c.deref-text-items.ensures.value ∙ c.in_ok-values.ensures in
    (subst (All IsIndex) whole c.loop-text.invariant.good, c.loop-text.invariant.read ∙ ap (λ (ts : List (List ℕ)). map index_of ts) whole)
