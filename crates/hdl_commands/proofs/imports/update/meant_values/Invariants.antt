use Rattle.std.proofs.Common.{◌≡◌, map, take}
use Rattle.hdl_commands.specs.Update.{meant}
use Rattle.hdl_commands.proofs.imports.update.meant_values.Given as goal

abbrev pub invariant-loop-value : goal.invariant-loop-value
invariant-loop-value l = l.all.items ≡ map (meant l.kept l.there) (take l.value-index l.wanted)
