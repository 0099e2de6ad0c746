use Rattle.std.proofs.Common.{All, sym, subst}
use Rattle.hdl_commands.specs.Update.{IsReading}
use Rattle.hdl_commands.proofs.Readings.{one_more}
use Rattle.hdl_commands.proofs.imports.reading.push_reading.Goals as goal

pub returns : goal.returns
returns c = subst (All IsReading) (sym c.in_ok-push.ensures.items) (one_more c.args.tasks.now.items c.args.task c.requires.readings c.requires.reading)
