use Rattle.std.proofs.Common.{length}
use Rattle.std.specs.Int.{w32, to_be_bytes}
use Rattle.hdl_journal_entries.specs.Entries.{dated_octets}
use Rattle.hdl_journal_entries.proofs.Loops.{puts_one}
use Rattle.hdl_journal_entries.proofs.writing.put_messages.Goals as goal

pub loop-one-preserved : goal.loop-one-preserved
loop-one-preserved c =
    puts_one dated_octets c.args.all.now c.loop-one.one-index c.one-item.result c.args.out.now.items (to_be_bytes w32 (length c.args.all.now)) c.loop-one.out.items c.put_message.new.out.items
    c.loop-one-test.true c.one-item.is c.loop-one.invariant c.in_ok-put_message.ensures
