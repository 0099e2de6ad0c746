use Rattle.std.proofs.Common.{length, ◌≤◌, rules}
use Rattle.hdl_change_list.proofs.Sequence.{makes_more, makes_all}
use Rattle.hdl_change_list.proofs.list.operations_of.Goals as goal

pub loop-write-preserved : goal.loop-write-preserved
loop-write-preserved c =
    makes_more c.args.writes.now c.loop-write.write-index c.write-item.result c.loop-write.operations.items c.push.new.self.items c.operation.result c.loop-write-test.true c.write-item.is
    c.loop-write.invariant c.operation.ensures c.in_ok-push.ensures.items

pub returns : goal.returns
returns c =
    let few : length c.args.writes.now ≤ c.loop-write.write-index = search rules in
    makes_all c.args.writes.now c.loop-write.write-index c.loop-write.operations.items few c.loop-write.invariant
