-- Which calls a fuse refuses.
use Rattle.std.specs.Prelude.{◌≡◌, ℕ, ◌+◌, min, Bool, true, false, ◌&&◌, nat_le, if◌then◌else◌, Result, IsErr}
use Rattle.hdl_rows.specs.Table.{most, refusals_after}
use Rattle.hdl_rows.specs.declared.fuse.FuseWire.{FuseWire}
use Rattle.hdl_rows.specs.declared.fuse.Fuse.{Fuse}

-- the number of the next call, counted from 1 up to the greatest
abbrev pub next_call : FuseWire → ℕ
next_call w = min (w.calls + 1) most

-- the next call is one of those that are refused
abbrev pub is_blown : FuseWire → Bool
is_blown w = nat_le w.first (next_call w) && nat_le (next_call w) w.last

-- the wire after this call was counted, and its refusal if it was refused
abbrev pub after_call : FuseWire → FuseWire
after_call w = record w { calls = next_call w; refusals = if is_blown w then min (w.refusals + 1) most else w.refusals }

-- what a fuse has of its own, and the inner table
abbrev pub wire_of : {R : Type 0} → Fuse R → FuseWire
wire_of fuse = fuse.wire

abbrev pub inner_of : {R : Type 0} → Fuse R → R
inner_of fuse = fuse.inner

-- both counts, up to the greatest
abbrev pub refusals_of : {R : Type 0} → (R → ℕ) → Fuse R → ℕ
refusals_of refused fuse = min (refused (inner_of fuse) + (wire_of fuse).refusals) most

-- what the inner table returned
abbrev pub reads_of : {R : Type 0} → (R → ℕ) → Fuse R → ℕ
reads_of reads fuse = reads (inner_of fuse)

-- A call that the fuse refuses fails, and doesn't reach the inner table.
abbrev pub Blows : {R X E : Type 0} → Fuse R → Fuse R → Result X E → Type 0
Blows old new result = is_blown (wire_of old) ≡ true → IsErr result × (inner_of new ≡ inner_of old)

-- The inner table answers or refuses any other call.
abbrev pub Passes : {R X E : Type 0} → (R → ℕ) → Fuse R → Fuse R → Result X E → Type 0
Passes refused old new result = is_blown (wire_of old) ≡ false → refused (inner_of new) ≡ refusals_after result (refused (inner_of old))
