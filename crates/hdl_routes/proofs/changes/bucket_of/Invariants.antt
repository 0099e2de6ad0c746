use Rattle.std.proofs.Common.{◌≡◌, ◌<◌, drop}
use Rattle.hdl_routes.specs.Changes.{place_from}
use Rattle.hdl_routes.proofs.changes.bucket_of.Given as goal

abbrev pub invariant-loop-octet : goal.invariant-loop-octet
invariant-loop-octet l = record {
  within : l.place < 1024;
  same : place_from l.place (drop l.octet-index l.handle) ≡ place_from 0 l.handle;
}
