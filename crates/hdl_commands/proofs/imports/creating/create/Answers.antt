use Rattle.hdl_commands.specs.declared.imports.creating.Creations.{Creations}
use Rattle.hdl_commands.proofs.Ended.{on_ok, leaves_lines}
use Rattle.hdl_commands.proofs.imports.creating.create.Goals as goal

pub returns : goal.returns
returns g c = record {
  created = on_ok c.run_batch.result
      (leaves_lines (λ (o : Creations). o.counts.failed) (λ (o : Creations). o.found.items) g.S.Transport c.args.batch.now.keys.items c.args.batch.now.tasks.items
      c.args.session.now.stream c.run_batch.new.self.stream c.args.creations.now c.run_batch.new.outcomes)
      c.run_batch.ensures.whole;
}
