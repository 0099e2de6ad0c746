use Rattle.std.proofs.Common.{take}
use Rattle.hdl_reach.specs.Seen.{places, Extends}
use Rattle.hdl_export.specs.Covers.{places_in, AreKept}
use Rattle.hdl_export.proofs.cover.Cover.extend.Given as goal

abbrev pub invariant-loop-one : goal.invariant-loop-one
invariant-loop-one l = record {
  kept : AreKept l.self;
  extended : Extends (places_in l.fn.self) (places (take l.one-index l.more)) (places_in l.self);
}
