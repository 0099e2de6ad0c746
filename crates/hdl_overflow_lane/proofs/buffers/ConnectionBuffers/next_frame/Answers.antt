use Rattle.std.proofs.Common.{sym, arith}
use Rattle.hdl_overflow_lane.proofs.FrameLemmas.{so_long, taken_short}
use Rattle.hdl_overflow_lane.proofs.buffers.ConnectionBuffers.next_frame.Goals as goal

pub slice_bounds-copy_from_slice-end : goal.slice_bounds-copy_from_slice-end
slice_bounds-copy_from_slice-end c = omega (arith, c.requires, taken_short _ _ _ _ _ c.next_frame.follows.holds-at-none c.in-Ok-Some.is c.in-Ok-Some.field-0-is)

pub slice_bounds-copy_from_slice-end-in-Ok-Some : goal.slice_bounds-copy_from_slice-end-in-Ok-Some
slice_bounds-copy_from_slice-end-in-Ok-Some c =
    sym (so_long _ 65556 c.args.buffer.now (taken_short _ _ _ _ _ c.next_frame.follows.holds-at-none c.in-Ok-Some.is c.in-Ok-Some.field-0-is) c.requires.room)

pub copy_from_slice-requires : goal.copy_from_slice-requires
copy_from_slice-requires c =
    so_long _ 65556 c.args.buffer.now (taken_short _ _ _ _ _ c.next_frame.follows.holds-at-none c.in-Ok-Some.is c.in-Ok-Some.field-0-is) c.requires.room
