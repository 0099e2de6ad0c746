use Rattle.hdl_commands.specs.declared.batches.BatchPrinter.{BatchPrinter}
use Rattle.hdl_commands.proofs.Ended.{ends_with}
use Rattle.hdl_commands.proofs.batches.ask_all.Goals as goal

pub returns : goal.returns
returns g c = record {
  whole = ends_with (λ (t : BatchPrinter). t.failures) g.S.Transport c.args.batch.now.keys.items c.args.batch.now.tasks.items c.args.session.now.stream c.run_batch.new.self.stream
      c.args.printer.now c.run_batch.new.outcomes c.of_failures.result c.requires c.in_ok-run_batch.ensures.whole c.of_failures.ensures;
}
