use Rattle.std.proofs.Common.{◌≡◌, ◌++◌, drop}
use Rattle.hdl_commands.specs.Update.{changed, lacking}
use Rattle.hdl_commands.proofs.imports.update.steps_to.Given as goal

abbrev pub invariant-loop-value : goal.invariant-loop-value
invariant-loop-value l = record {
  changed : l.modified.items ++ changed l.there (drop l.value-index l.wanted) ≡ changed l.there l.wanted;
  lacking : l.added.items ++ lacking l.there (drop l.value-index l.wanted) ≡ lacking l.there l.wanted;
}
