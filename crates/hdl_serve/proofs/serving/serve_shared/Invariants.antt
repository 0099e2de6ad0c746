use Rattle.std.proofs.Common.{◌≡◌, ◌++◌, List}
use Rattle.hdl_serve.specs.declared.news.StampedChange.{StampedChange}
use Rattle.hdl_serve.specs.Rounds.{IsServing}
use Rattle.hdl_serve.proofs.serving.serve_shared.Given as goal

abbrev pub invariant-loop-turns : goal.invariant-loop-turns
invariant-loop-turns g l =
    (changes : List StampedChange) × (g.N.RemoteChanges.taken l.news ≡ g.N.RemoteChanges.taken l.initial.news ++ changes) × IsServing l.fn.served.service.world l.fn.served.lanes.items changes l.machine.world l.lanes.items l.ended.items

abbrev pub decreases-loop-turns : goal.decreases-loop-turns
decreases-loop-turns g l = l.turns
