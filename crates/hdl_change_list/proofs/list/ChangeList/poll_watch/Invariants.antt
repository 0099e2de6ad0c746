use Rattle.std.proofs.Common.{◌≡◌, IsTrue}
use Rattle.hdl_change_list.proofs.list.ChangeList.poll_watch.Given as goal

abbrev pub invariant-loop : goal.invariant-loop
invariant-loop g l = (IsTrue l.initial.self.is_due → IsTrue l.self.is_due) × ((l.self.chain ≡ l.initial.self.chain) × (l.self.name ≡ l.initial.self.name))
