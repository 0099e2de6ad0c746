use Rattle.std.proofs.Common.{◌≡◌}
use Rattle.hdl_change_list.proofs.list.ChangeList.range.Given as goal

abbrev pub invariant-loop : goal.invariant-loop
invariant-loop g l = (l.self.chain ≡ l.initial.self.chain) × (l.self.name ≡ l.initial.self.name)
