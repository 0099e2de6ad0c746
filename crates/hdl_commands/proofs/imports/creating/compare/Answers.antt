use Rattle.std.proofs.Common.{rules, ◌≡◌, map}
use Rattle.hdl_commands.specs.declared.imports.creating.Comparisons.{Comparisons}
use Rattle.hdl_commands.specs.Ended.{line_of, found_lines}
use Rattle.hdl_commands.proofs.Ended.{on_ok, none_before, asks_again}
use Rattle.hdl_commands.proofs.imports.creating.compare.Goals as goal

pub returns-clause-none : goal.returns-clause-none
returns-clause-none g c = on_ok c.run_batch-ended.result
    (none_before (λ (o : Comparisons). o.counts.failed) g.S.Transport _ _ _ _ _ _)
    c.run_batch-ended.ensures.whole

pub returns-clause-again : goal.returns-clause-again
returns-clause-again g c =
    let same : map line_of c.replace-tasks.new.dest.items ≡ found_lines c.args.found.now c.args.batch.now.tasks.items = search rules in
    on_ok c.run_batch-ended.result (asks_again g.S.Transport _ _ c.args.batch.now.tasks.items _ c.args.found.now _ _ _ _ same) c.run_batch-ended.ensures.whole
