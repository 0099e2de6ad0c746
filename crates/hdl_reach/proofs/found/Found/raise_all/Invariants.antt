use Rattle.std.proofs.Common.{◌≡◌, take}
use Rattle.hdl_value.specs.Place.{Place}
use Rattle.hdl_reach.specs.Seen.{places}
use Rattle.hdl_reach.specs.Found.{known_at, raised_at, AreWaiting, HasGained}
use Rattle.hdl_reach.specs.Looks.{AddsNone}
use Rattle.hdl_reach.proofs.found.Found.raise_all.Given as goal

abbrev pub invariant-loop-one : goal.invariant-loop-one
invariant-loop-one l = record {
  known : (p : Place) → known_at l.self p ≡ raised_at (known_at l.fn.self) (places (take l.one-index l.more)) l.mask.0 p;
  waiting : AreWaiting l.fn.self → AreWaiting l.self;
  gained : HasGained l.fn.self l.self;
  left : AddsNone l.fn.self l.self (places (take l.one-index l.more));
}
