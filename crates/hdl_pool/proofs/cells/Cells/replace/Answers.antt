use Rattle.std.proofs.Common.{◌∙◌, ap, sym}
use Rattle.std.specs.Option.{option_copied_mut}
use Rattle.slab.specs.Slab.{with_value}
use Rattle.hdl_pool.specs.declared.cells.Cells.TheInside.{Inside}
use Rattle.hdl_pool.specs.Store.{stored_cells}
use Rattle.hdl_pool.proofs.StoreLemmas.{cell_read, key_found, cell_rewritten}
use Rattle.hdl_pool.proofs.cells.Cells.replace.Goals as goal
use Rattle.hdl_pool.proofs.cells.Cells.replace.Goals.{in-Some, in-None+in-Some-1, in-None+in-None-1}

pub returns-clause-was : goal.returns-clause-was
returns-clause-was c =
    elim c.match-get_mut.branch [
      | in-Some w ↦
          w.result-is ∙ w.replace.ensures.value ∙ cell_read c.self.inside.slab c.self.inside.keys.items c.args.self.now c.args.lane c.args.place c.index-key.result.now w.in-Some.cell.now c.self.view_is c.self.invariant c.requires.lane c.requires.place
          c.index-key.ensures (sym c.get_mut.ensures.value ∙ ap option_copied_mut w.in-Some.is)
      | in-None+in-Some-1 w ↦ absurd (key_found c.self.inside.slab c.self.inside.keys.items c.args.lane c.args.place c.index-key.result.now c.self.invariant c.requires.lane c.requires.place c.index-key.ensures (sym c.get_mut.ensures.value ∙ ap option_copied_mut w.in-None.is))
      | in-None+in-None-1 w ↦ absurd (key_found c.self.inside.slab c.self.inside.keys.items c.args.lane c.args.place c.index-key.result.now c.self.invariant c.requires.lane c.requires.place c.index-key.ensures (sym c.get_mut.ensures.value ∙ ap option_copied_mut w.in-None.is))
    ]

pub returns-clause-cells : goal.returns-clause-cells
returns-clause-cells c =
    elim c.match-get_mut.branch [
      | in-Some w ↦
          ap (λ (s : Inside). stored_cells s.slab s.keys.items) w.self-inside-is
          ∙ (cell_rewritten c.self.inside.slab (with_value c.self.inside.slab c.index-key.result.now w.replace.new.dest) c.self.inside.keys.items c.args.self.now c.args.lane c.args.place c.index-key.result.now c.args.content c.self.view_is c.self.invariant c.requires.lane c.requires.place
          c.index-key.ensures (ap (with_value c.self.inside.slab c.index-key.result.now) w.replace.ensures.after)).0
      | in-None+in-Some-1 w ↦ absurd (key_found c.self.inside.slab c.self.inside.keys.items c.args.lane c.args.place c.index-key.result.now c.self.invariant c.requires.lane c.requires.place c.index-key.ensures (sym c.get_mut.ensures.value ∙ ap option_copied_mut w.in-None.is))
      | in-None+in-None-1 w ↦ absurd (key_found c.self.inside.slab c.self.inside.keys.items c.args.lane c.args.place c.index-key.result.now c.self.invariant c.requires.lane c.requires.place c.index-key.ensures (sym c.get_mut.ensures.value ∙ ap option_copied_mut w.in-None.is))
    ]
