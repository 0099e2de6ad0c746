-- What stays as it is while replies are sent.
use Rattle.std.specs.Prelude.{◌≡◌, ◌≤◌, IsTrue}
use Rattle.hdl_workers.specs.declared.door.Packets.{Ghosts}
use Rattle.hdl_workers.specs.declared.worker_lane.WorkerLane.{WorkerLane}
use Rattle.hdl_workers.specs.WorkerLane.{put_by, SameWorkerLane}

-- the lane's ends are the same and nothing more was put or received, and no fault is forgotten
pub record OnlyReplies {P : Type 0} (g : Ghosts P) (before : P) (old : WorkerLane) (after : P) (new : WorkerLane) : Type 0 where
  pub line : SameWorkerLane old new
  pub put : put_by new ≡ put_by old
  pub received : IsTrue g.is_observed → g.received after ≡ g.received before
  pub faults : g.fault_count before ≤ g.fault_count after
