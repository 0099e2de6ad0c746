use Rattle.std.proofs.Common.{◌≡◌, ◌++◌, length, take}
use Rattle.std.specs.Int.{w32, to_be_bytes}
use Rattle.std.specs.List.{flat_map}
use Rattle.hdl_site.specs.Info.{server}
use Rattle.hdl_site.proofs.writing.put_servers.Given as goal

abbrev pub invariant-loop-one : goal.invariant-loop-one
invariant-loop-one l = l.out.items ≡ l.fn.out.items ++ (to_be_bytes w32 (length l.all) ++ flat_map server (take l.one-index l.all))
