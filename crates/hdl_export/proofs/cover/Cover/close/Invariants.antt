use Rattle.std.proofs.Common.{◌≡◌}
use Rattle.hdl_reach.specs.Reach.{lists}
use Rattle.hdl_reach.specs.Search.{IsSearched}
use Rattle.hdl_export.specs.Covers.{places_in, AreKept, IsLed}
use Rattle.hdl_export.proofs.cover.Cover.close.Given as goal

abbrev pub invariant-loop-next : goal.invariant-loop-next
invariant-loop-next g l = record {
  stays : g.R.Rows.content l.rows ≡ g.R.Rows.content l.fn.rows;
  kept : AreKept l.self;
  searched : IsSearched (lists (g.R.Rows.content l.fn.rows)) (IsLed (g.R.Rows.content l.fn.rows) (places_in l.fn.self)) (places_in l.fn.self) l.next (places_in l.self);
}
