-- What comes of the open connection while outcomes are relayed to it.
use Rattle.std.specs.Prelude.{◌≡◌, true, IsTrue, Result, OnOk, IfErr}
use Rattle.hdl_workers.specs.declared.door.Door.{Ghosts}
use Rattle.hdl_workers.specs.declared.worker_lane.WorkerLane.{WorkerLane}
use Rattle.hdl_workers.specs.declared.worker.Stop.{Stop}
use Rattle.hdl_workers.specs.declared.worker.Stop.TheVariants.{Broken}
use Rattle.hdl_workers.specs.WorkerLane.{taken_by, Relayed, RelayedPart}
use Rattle.hdl_workers.specs.Going.{GoesOn}

-- the connection goes on, all outcomes that were taken were written, or a beginning where it stopped, and a write that failed broke it
pub record Relays {D A : Type 0} (g : Ghosts D) (before : D) (old : WorkerLane) (result : Result A Stop) (after : D) (new : WorkerLane) : Type 0 where
  pub goes_on : GoesOn g before old after new
  pub whole : IsTrue g.is_observed → OnOk result (Relayed (taken_by old) (g.current before) (taken_by new) (g.current after))
  pub part : IsTrue g.is_observed → RelayedPart (taken_by old) (g.current before) (taken_by new) (g.current after)
  pub broken : IsTrue g.is_observed → IfErr result (λ stop. stop ≡ Broken → (g.current after).broken ≡ true)
