use Rattle.std.proofs.Common.{sym, subst}
use Rattle.hdl_change_list.specs.Sequence.{Follow, FollowsOne}
use Rattle.hdl_change_list.proofs.Sequence.{follow_same, follow_more}
use Rattle.hdl_change_list.proofs.list.ChangeList.take_page.Goals as goal
use Rattle.hdl_change_list.proofs.list.ChangeList.take_page.Goals.{in-Some+in_ok-push, in_default}

pub loop-pair-preserved : goal.loop-pair-preserved
loop-pair-preserved g c =
    let old = c.args.self.now.chain in
    let mid = c.loop-pair.self.chain in
    let new = c.take_entry.new.self.chain in
    elim c.match-branch-2.branch [
      | in-Some+in_ok-push w ↦
          let one = subst (FollowsOne mid new) w.in-Some.is c.in_ok-entry.ensures in
          let more = follow_more old mid new c.loop-pair.entries.items w.in-Some.entry c.loop-pair.invariant one in
          rw w.entries-is (subst (Follow old new) (sym w.in_ok-push.ensures.items) more)
      | in_default w ↦
          let none = subst (FollowsOne mid new) w.in_default.is c.in_ok-entry.ensures in
          rw w.entries-is (follow_same old mid new c.loop-pair.entries.items c.loop-pair.invariant none)
    ]
