-- What two misses come to.
use Rattle.hdl_routes.specs.declared.failure.Failure.{Failure}
use Rattle.hdl_routes.specs.declared.failure.Failure.TheVariants.{Elsewhere, Unreachable, Crowded}

-- the one that counts more: too many questions before a failure, and a failure before that the prefix is elsewhere
abbrev pub worst : Failure → Failure → Failure
worst Elsewhere other = other
worst Crowded other = Crowded
worst Unreachable Elsewhere = Unreachable
worst Unreachable Unreachable = Unreachable
worst Unreachable Crowded = Crowded
