use Rattle.std.proofs.Common.{take}
use Rattle.hdl_proxy.specs.Locations.{IsNoneChosen}
use Rattle.hdl_proxy.proofs.locations.first_weighing.Given as goal

-- none so far weighs anything
abbrev pub invariant-loop-location : goal.invariant-loop-location
invariant-loop-location l = IsNoneChosen (take l.location-index l.locations) l.wanted
