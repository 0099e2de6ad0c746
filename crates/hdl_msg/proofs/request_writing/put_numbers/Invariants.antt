use Rattle.std.proofs.Common.{◌≡◌, ◌++◌, length, take}
use Rattle.std.specs.Int.{w32, to_be_bytes}
use Rattle.std.specs.List.{flat_map}
use Rattle.hdl_msg.specs.Message.{number}
use Rattle.hdl_msg.proofs.request_writing.put_numbers.Given as goal

abbrev pub invariant-loop-number : goal.invariant-loop-number
invariant-loop-number l = l.out.items ≡ l.fn.out.items ++ (to_be_bytes w32 (length l.numbers) ++ flat_map number (take l.number-index l.numbers))
