-- Words on a worker's side of its lane.
use Rattle.std.specs.Prelude.{◌≡◌, ◌≤◌, ◌<◌, ◌^◌, ◌-◌, ℕ, List, ◌++◌}
use Rattle.std.specs.List.{flat_map}
use mathlib.Core.List.{IsPrefix}
use Rattle.hdl_events.specs.declared.Outcome.{Outcome}
use Rattle.hdl_lanes.specs.Lane.{put_into, taken_from, known_room, SameInlet, SameOutlet}
use Rattle.hdl_workers.specs.declared.item.Item.{Item}
use Rattle.hdl_workers.specs.declared.worker_lane.WorkerLane.{WorkerLane}
use Rattle.hdl_workers.specs.Octets.{octets_of}
use Rattle.hdl_workers.specs.Door.{Connection}

-- every item put, and every outcome taken, oldest first
abbrev pub put_by : WorkerLane → List Item
put_by line = put_into line.inlet

abbrev pub taken_by : WorkerLane → List Outcome
taken_by line = taken_from line.outcomes

-- the next event is put at once
abbrev pub HasPlace : WorkerLane → Type 0
HasPlace line = (0 < known_room line.inlet) × (line.waiting < 2 ^ 64 - 1)

-- the lane's ends are the same, and no turn came back
abbrev pub SameWorkerLane : WorkerLane → WorkerLane → Type 0
SameWorkerLane a b = SameInlet a.inlet b.inlet × SameOutlet a.outcomes b.outcomes × (b.turns ≤ a.turns)

-- more outcomes were taken, and all their octets were written
abbrev pub Relayed : List Outcome → Connection → List Outcome → Connection → Type 0
Relayed t c u d =
    (os : List Outcome) × (u ≡ t ++ os) × (d.written ≡ c.written ++ flat_map octets_of os) × (d.read ≡ c.read) × (d.broken ≡ c.broken)

-- more outcomes were taken, and their octets stand behind those that were joined
abbrev pub Joins : List Outcome → List ℕ → List Outcome → List ℕ → Type 0
Joins t s u r = (os : List Outcome) × (u ≡ t ++ os) × (r ≡ s ++ flat_map octets_of os)

-- more outcomes were taken, and a beginning of their octets was written
abbrev pub RelayedPart : List Outcome → Connection → List Outcome → Connection → Type 0
RelayedPart t c u d =
    (os : List Outcome) × (u ≡ t ++ os) × IsPrefix d.written (c.written ++ flat_map octets_of os) × (d.read ≡ c.read)
