-- The two sides of lanes.
use Rattle.std.specs.Prelude.{◌≡◌, ◌≢◌, ◌+◌, ⊤, ℕ, List, [], ◌∷◌, AllPairs}
use Rattle.hdl_lanes.specs.Lane.{AreEnds, AreEnded, put_into, taken_from}
use Rattle.hdl_workers.specs.declared.ends.LaneEnds.{LaneEnds}
use Rattle.hdl_workers.specs.declared.worker_side.WorkerSide.{WorkerSide}
use Rattle.hdl_workers.specs.declared.worker.WorkerEnd.{WorkerEnd}

-- no two lanes have one number
abbrev pub AreDistinct : List LaneEnds → Type 0
AreDistinct lanes = AllPairs (λ a b. a.lane ≢ b.lane) lanes

-- the service's and the worker's side of one lane, of which the service took nothing and put nothing
abbrev pub AreSides : LaneEnds → WorkerSide → Type 0
AreSides ends side = AreEnds side.inlet ends.items × AreEnds ends.outcomes side.outcomes × (taken_from ends.items ≡ []) × (put_into ends.outcomes ≡ [])

-- as many of the one as of the other, side by side, and numbered from the first number on
abbrev pub AreLanes : ℕ → List LaneEnds → List WorkerSide → Type 0
AreLanes first [] [] = ⊤
AreLanes first [] (f ∷ sides) = ⊥
AreLanes first (e ∷ ends) [] = ⊥
AreLanes first (e ∷ ends) (f ∷ sides) = (e.lane ≡ first) × AreSides e f × AreLanes (first + 1) ends sides

-- the worker's and the service's ends of one lane
abbrev pub Meet : WorkerEnd → LaneEnds → Type 0
Meet end b = AreEnded end.ended b.items × AreEnds b.outcomes end.outlet
