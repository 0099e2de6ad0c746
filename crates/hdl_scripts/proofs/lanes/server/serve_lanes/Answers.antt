use Rattle.hdl_scripts.proofs.Same.{served_each}
use Rattle.hdl_scripts.proofs.lanes.server.serve_lanes.Goals as goal

pub returns : goal.returns
returns g c = record {
  distinct = c.serve-served.ensures.distinct;
  same = served_each _ _ _ _ c.serve-served.ensures.served;
}
