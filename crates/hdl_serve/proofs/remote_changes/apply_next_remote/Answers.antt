use Rattle.std.proofs.Common.{◌≡◌, ◌++◌, [], List, subst}
use Rattle.hdl_serve.specs.declared.news.StampedChange.{StampedChange}
use Rattle.hdl_serve.specs.Rounds.{HasRunBeside}
use Rattle.hdl_serve.proofs.Sharing.{lets_one}
use Rattle.hdl_serve.proofs.remote_changes.apply_next_remote.Goals as goal

pub returns-in-Done-clause-beside : goal.returns-in-Done-clause-beside
returns-in-Done-clause-beside g c =
    let world = c.args.machine.now.world in
    let new = c.apply_remote-outcome.new.self.world in
    let known = g.N.RemoteChanges.taken c.look.new.self in
    let now = g.N.RemoteChanges.taken c.take.new.self in
    let apply_remote = c.apply_remote-outcome.ensures.done c.in-Done.is in
    subst (λ (known : List StampedChange). (changes : List StampedChange) × (now ≡ known ++ changes) × HasRunBeside world changes [] [] new) c.look.ensures
    (lets_one world new known now (g.N.RemoteChanges.seen c.look.new.self) c.in-Some.next.now c.in-Some.ensures c.take.ensures apply_remote.0 apply_remote.1)
