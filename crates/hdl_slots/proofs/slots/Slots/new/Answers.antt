use Rattle.std.proofs.Common.{◌≡◌, replicate}
use Rattle.hdl_slots.proofs.Places.{new_lanes, new_states}
use Rattle.hdl_slots.proofs.slots.Slots.new.Goals as goal

pub invariant_of-result : goal.invariant_of-result
invariant_of-result c =
    let ones : c.in_ok-numbers.numbers.items ≡ replicate 64 1 = c.in_ok-numbers.ensures.items_if_clones_equal (λ y same. same) in
    rw (ones, c.in_ok-cells.ensures) new_lanes

pub returns : goal.returns
returns c =
    let ones : c.in_ok-numbers.numbers.items ≡ replicate 64 1 = c.in_ok-numbers.ensures.items_if_clones_equal (λ y same. same) in
    record { ok = rw (ones, c.in_ok-cells.ensures) new_states }
