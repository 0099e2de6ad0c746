use Rattle.hdl_change_list.specs.Sequence.{Follow}
use Rattle.hdl_change_list.proofs.list.ChangeList.take_page.Given as goal

abbrev pub invariant-loop-pair : goal.invariant-loop-pair
invariant-loop-pair g l = Follow l.initial.self.chain l.self.chain l.entries.items
