use Rattle.std.proofs.Common.{◌≡◌, ◌++◌, take, map}
use Rattle.std.specs.List.{flat_map, AllByRecursion}
use Rattle.hdl_export.specs.Rows.{authority_text, AreWritableUnder}
use Rattle.hdl_export.proofs.rows.put_rows.Given as goal

abbrev pub invariant-loop-authority : goal.invariant-loop-authority
invariant-loop-authority g l = record {
  stays : g.R.Rows.content l.rows ≡ g.R.Rows.content l.fn.rows;
  put : l.out.items ≡ l.fn.out.items ++ flat_map (authority_text (map (λ p. p.now) l.prefixes) (g.R.Rows.content l.fn.rows)) (map (λ a. a.now) (take l.authority-index l.authorities));
  writable : AllByRecursion (AreWritableUnder (map (λ p. p.now) l.prefixes) (g.R.Rows.content l.fn.rows)) (map (λ a. a.now) (take l.authority-index l.authorities));
}
