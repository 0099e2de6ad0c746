use Rattle.std.proofs.Common.{◌≡◌, List, All, length, subst, sym}
use Rattle.hdl_lanes.specs.Lane.{AreEnds}
use Rattle.hdl_workers.specs.declared.ends.LaneEnds.{LaneEnds}
use Rattle.hdl_scripts.proofs.Same.{meets}
use Rattle.hdl_scripts.proofs.lanes.beside.run_packets.Goals as goal

pub settle_rings-requires : goal.settle_rings-requires
settle_rings-requires g c = λ b each.
    let p = c.args.pair in
    let e = c.packet_worker-end in
    let one : length g.L.Made.ends ≡ 1 = subst (λ (xs : List LaneEnds). length xs ≡ 1) (sym c.requires.made) p.single in
    let pairs : All (λ a. AreEnds p.side.inlet a.items × AreEnds a.outcomes p.side.outcomes) g.L.Made.ends = subst (λ (xs : List LaneEnds). All (λ a. AreEnds p.side.inlet a.items × AreEnds a.outcomes p.side.outcomes) xs) (sym c.requires.made) p.pair in
    meets g.L.Made.ends p.side.inlet p.side.outcomes e.result b one pairs e.ensures.inlet e.ensures.outlet each
