use Rattle.std.proofs.Common.{◌≡◌, ◌++◌, length, take}
use Rattle.std.specs.Int.{w32, to_be_bytes}
use Rattle.std.specs.List.{flat_map}
use Rattle.hdl_journal_entries.specs.Entries.{dated_octets}
use Rattle.hdl_journal_entries.proofs.writing.put_messages.Given as goal

abbrev pub invariant-loop-one : goal.invariant-loop-one
invariant-loop-one l = l.out.items ≡ l.fn.out.items ++ (to_be_bytes w32 (length l.all) ++ flat_map dated_octets (take l.one-index l.all))
