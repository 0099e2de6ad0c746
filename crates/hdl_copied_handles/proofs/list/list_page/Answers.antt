use Rattle.std.proofs.Common.{◌≡◌, ◌∙◌, ◌<◌, ◌+◌, ◌++◌, sym, ap, ℕ, List, drop, arith}
use Rattle.std.proofs.lemmas.List.{drop-drop}
use Rattle.hdl_copied_handles.specs.List.{found_from}
use Rattle.hdl_copied_handles.specs.declared.listed.ListedHandle.{ListedHandle}
use Rattle.hdl_copied_handles.proofs.list.list_page.Goals.{then-len-ge-PAGE_MOST-via-then-len-ge-PAGE_MOST, then-len-ge-PAGE_MOST-via-else-len-ge-PAGE_MOST+then-place-from-ge-LOOKED_MOST}
use Rattle.hdl_copied_handles.proofs.list.list_page.Goals as goal

-- what is left of the handles behind a place is what stands from there on in all of them
left : (items handles : List ListedHandle) (from at place : ℕ) → items ≡ drop from handles → place ≡ from + at → drop at items ≡ drop place handles
left items handles from at place e p = ap (drop at) e ∙ drop-drop at from handles ∙ ap (λ n. drop n handles) (sym p)

pub returns-then-len-ge-PAGE_MOST : goal.returns-then-len-ge-PAGE_MOST
returns-then-len-ge-PAGE_MOST c =
    let i = c.loop-handle.invariant in
    let rest = left c.unwrap_or-handle-items.result.now c.args.handles.now c.args.from c.loop-handle.handle-index c.loop-handle.place i.items i.place in
    let some : 0 < c.loop-handle.handle-index = elim c.then-len-ge-PAGE_MOST.branch [
      | then-len-ge-PAGE_MOST-via-then-len-ge-PAGE_MOST w ↦ omega (arith, i.fewer, w.if-len-ge-PAGE_MOST.true, c.len.ensures)
      | then-len-ge-PAGE_MOST-via-else-len-ge-PAGE_MOST+then-place-from-ge-LOOKED_MOST w ↦ omega (arith, i.place, w.if-place-from-ge-LOOKED_MOST.true)
    ] in
    record {
      page = record {
        whole = i.whole ∙ ap (λ handles. c.loop-handle.found.items ++ found_from c.args.search.now c.loop-handle.place handles) rest;
        few = i.few;
        onward = (omega (arith, some, i.place), omega (arith, i.looked, i.place));
        ended = tt;
      };
    }
