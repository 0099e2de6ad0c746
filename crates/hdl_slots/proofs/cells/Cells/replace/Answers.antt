use Rattle.std.proofs.Common.{◌≡◌, [], get_or, ap, arith}
use Rattle.std.proofs.lemmas.List.{get_or_read}
use Rattle.hdl_slots.specs.Cells.{key_at}
use Rattle.hdl_slots.proofs.Table.{lanes_written, table_kept}
use Rattle.hdl_slots.proofs.cells.Cells.replace.Goals as goal

pub returns-clause-cells : goal.returns-clause-cells
returns-clause-cells c =
    let key : get_or c.index.result.now c.args.place 0 ≡ key_at c.self.inside.keys.items c.args.lane c.args.place =
    ap (λ keys. get_or keys c.args.place 0) (get_or_read c.self.inside.keys.items c.args.lane c.index.result.now (omega (arith, c.self.invariant.lanes)) c.index.ensures []) in
    rw (c.replace.ensures.after, ← c.self.view_is)
    (lanes_written c.self.inside.slab c.self.inside.keys.items c.args.lane c.args.place _ c.index_mut-cell.result.now c.args.challenge c.self.invariant c.requires.lane c.requires.place key c.index_mut-cell.ensures.value)

pub invariant_of-self : goal.invariant_of-self
invariant_of-self c =
    let key : get_or c.index.result.now c.args.place 0 ≡ key_at c.self.inside.keys.items c.args.lane c.args.place =
    ap (λ keys. get_or keys c.args.place 0) (get_or_read c.self.inside.keys.items c.args.lane c.index.result.now (omega (arith, c.self.invariant.lanes)) c.index.ensures []) in
    table_kept c.self.inside.slab c.self.inside.keys.items c.args.lane c.args.place _ c.index_mut-cell.result.now c.replace.new.dest c.self.invariant c.requires.lane c.requires.place key c.index_mut-cell.ensures.value
