use Rattle.std.proofs.Common.{◌∙◌, ap, sym}
use Rattle.std.specs.Prelude.{option_copied}
use Rattle.hdl_pool.proofs.StoreLemmas.{cell_read}
use Rattle.hdl_pool.proofs.cells.Cells.get.Goals as goal

pub returns : goal.returns
returns c =
    c.as_ref.ensures.value ∙ cell_read c.self.inside.slab c.self.inside.keys.items c.args.self.now c.args.lane c.args.place c.index-key.result.now c.in_ok-get.field-0.now c.self.view_is c.self.invariant c.requires.lane c.requires.place
    c.index-key.ensures (sym c.get.ensures ∙ ap option_copied c.in_ok-get.was)
