use Rattle.std.proofs.Common.{sym}
use Rattle.hdl_partitionedrows.proofs.Steps.{first_taken, second_taken}
use Rattle.hdl_partitionedrows.proofs.merging.take_first.Goals as goal

pub returns-then-is_second_next-clause-taken : goal.returns-then-is_second_next-clause-taken
returns-then-is_second_next-clause-taken c = second_taken c.args.first.now.items c.args.second.now.items c.pop_front.new.self.items c.pop_front.result (sym c.if-is_second_next.ensures) c.pop_front.ensures.items

pub returns-else-is_second_next-clause-taken : goal.returns-else-is_second_next-clause-taken
returns-else-is_second_next-clause-taken c = first_taken c.args.first.now.items c.args.second.now.items c.pop_front-else-is_second_next.new.self.items c.pop_front-else-is_second_next.result (sym c.if-is_second_next.ensures) c.pop_front-else-is_second_next.ensures.items
