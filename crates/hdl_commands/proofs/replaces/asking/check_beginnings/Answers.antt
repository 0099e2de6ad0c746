use Rattle.std.proofs.Common.{rules}
use Rattle.hdl_commands.specs.Addresses.{KeepsFollowed}
use Rattle.hdl_commands.proofs.Followed.{keeps_addresses}
use Rattle.hdl_commands.proofs.replaces.asking.check_beginnings.Goals as goal

pub returns : goal.returns
returns c = let kept : KeepsFollowed c.args.old.now c.args.new.now = search rules in keeps_addresses c.args.old.now c.args.new.now kept
