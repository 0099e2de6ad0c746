use Rattle.std.proofs.Common.{◌≡◌, ◌++◌, take, map}
use Rattle.std.specs.List.{flat_map, AllByRecursion}
use Rattle.hdl_export.specs.Rows.{handle_text, AreWritable}
use Rattle.hdl_export.proofs.rows.put_handles.Given as goal

abbrev pub invariant-loop-handle : goal.invariant-loop-handle
invariant-loop-handle g l = record {
  stays : g.R.Rows.content l.rows ≡ g.R.Rows.content l.fn.rows;
  put : l.out.items ≡ l.fn.out.items ++ flat_map (handle_text (map (λ p. p.now) l.prefixes) (g.R.Rows.content l.fn.rows)) (take l.handle-index l.handles);
  writable : AllByRecursion (AreWritable (map (λ p. p.now) l.prefixes) (g.R.Rows.content l.fn.rows)) (take l.handle-index l.handles);
}
