use Rattle.std.proofs.Common.{take, map}
use Rattle.std.specs.List.{IsDistinct}
use Rattle.hdl_value.specs.Place.{same_place}
use Rattle.hdl_laws.specs.Isolation.{EachCovered}
use Rattle.hdl_export.specs.Covers.{places_in, AreKept, AreReferred}
use Rattle.hdl_export.proofs.cover.Cover.of.Given as goal

abbrev pub invariant-loop-row : goal.invariant-loop-row
invariant-loop-row l = record {
  kept : AreKept l.cover;
  distinct : IsDistinct same_place (places_in l.cover);
  covered : EachCovered (places_in l.cover) (map (λ row. row.1) (take l.row-index l.rows));
  referred : AreReferred (map (λ row. row.1) (take l.row-index l.rows)) (places_in l.cover);
}
