use Rattle.hdl_commands.proofs.Updates.{update_is_right_lem}
use Rattle.hdl_commands.proofs.imports.update.update_is_right.Goals as goal

pub returns : goal.returns
returns c = update_is_right_lem
