-- What stays as it is while a connection is served.
use Rattle.std.specs.Prelude.{◌≡◌, ◌≤◌, IsTrue}
use Rattle.hdl_workers.specs.declared.door.Door.{Ghosts}
use Rattle.hdl_workers.specs.declared.worker_lane.WorkerLane.{WorkerLane}
use Rattle.hdl_workers.specs.WorkerLane.{SameWorkerLane}

-- the connection is as open as it was, the connections that were left are the same, and no fault is forgotten
pub record StaysOpen {D : Type 0} (g : Ghosts D) (old new : D) : Type 0 where
  pub still_open : g.is_open new ≡ g.is_open old
  pub ended : IsTrue g.is_observed → g.ended new ≡ g.ended old
  pub faults : g.fault_count old ≤ g.fault_count new

-- and the lane's ends are the same
pub record GoesOn {D : Type 0} (g : Ghosts D) (before : D) (old : WorkerLane) (after : D) (new : WorkerLane) : Type 0 where
  pub connection : StaysOpen g before after
  pub line : SameWorkerLane old new
