use Rattle.std.proofs.Common.{◌≡◌, ◌++◌, take, map}
use Rattle.std.specs.List.{AllByRecursion}
use Rattle.hdl_reach.specs.Seen.{places}
use Rattle.hdl_export.specs.Lines.{text_of, value_line}
use Rattle.hdl_export.specs.Rows.{foreign_rows}
use Rattle.hdl_export.specs.Laws.{IsWritableRow}
use Rattle.hdl_export.proofs.foreign.put_foreign.Given as goal

abbrev pub invariant-loop-here : goal.invariant-loop-here
invariant-loop-here g l = record {
  stays : g.R.Rows.content l.rows ≡ g.R.Rows.content l.fn.rows;
  put : l.out.items ≡ l.fn.out.items ++ text_of (map value_line (foreign_rows (map (λ p. p.now) l.prefixes) (g.R.Rows.content l.fn.rows) (places (take l.here-index l.references))));
  writable : AllByRecursion IsWritableRow (foreign_rows (map (λ p. p.now) l.prefixes) (g.R.Rows.content l.fn.rows) (places (take l.here-index l.references)));
}
