use Rattle.std.proofs.Common.{◌≡◌, ◌++◌, [], List}
use Rattle.hdl_serve.specs.declared.news.StampedChange.{StampedChange}
use Rattle.hdl_serve.specs.Rounds.{HasRunBeside}
use Rattle.hdl_serve.proofs.remote_changes.apply_remote_changes.Given as goal

abbrev pub invariant-loop-count : goal.invariant-loop-count
invariant-loop-count g l = (changes : List StampedChange) × (g.N.RemoteChanges.taken l.news ≡ g.N.RemoteChanges.taken l.initial.news ++ changes) × HasRunBeside l.initial.machine.world changes [] [] l.machine.world
