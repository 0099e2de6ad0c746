use Rattle.std.proofs.Common.{◌≡◌, ◌≤◌, ◌+◌, ◌++◌, drop, length}
use Rattle.hdl_copied_handles.specs.List.{found_from}
use Rattle.hdl_copied_handles.specs.declared.list.TheConstants.{PAGE_MOST, LOOKED_MOST}
use Rattle.hdl_copied_handles.proofs.list.list_page.Given as goal

abbrev pub invariant-loop-handle : goal.invariant-loop-handle
invariant-loop-handle l = record {
  items : l.handle-items ≡ drop l.from l.handles;
  place : l.place ≡ l.from + l.handle-index;
  few : length l.found.items ≤ PAGE_MOST;
  fewer : length l.found.items ≤ l.handle-index;
  looked : l.handle-index ≤ LOOKED_MOST;
  whole : found_from l.search l.from (drop l.from l.handles) ≡ l.found.items ++ found_from l.search l.place (drop l.handle-index l.handle-items);
}
