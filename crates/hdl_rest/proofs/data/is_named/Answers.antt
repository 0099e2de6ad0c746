use Rattle.std.proofs.Common.{rules}
use Rattle.hdl_name.proofs.Equal.{handle_decides}
use Rattle.hdl_rest.proofs.data.is_named.Goals as goal

pub returns : goal.returns
returns c = search (rules, handle_decides)
