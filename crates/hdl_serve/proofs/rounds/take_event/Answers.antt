use Rattle.std.proofs.Common.{rules}
use Rattle.hdl_serve.proofs.Steps.{took_event, took_end}
use Rattle.hdl_serve.proofs.rounds.take_event.Goals as goal

pub returns-in-Some-End : goal.returns-in-Some-End
returns-in-Some-End c =
    took_end c.args.ended.now c.args.ends.now c.next.new.self c.in-Some-End.field-0 c.if-ended.false c.next.ensures.lane c.next.ensures.put c.in-Some-End.ensures.taken c.in-Some-End.field-0-is

pub returns-in-Some-Event : goal.returns-in-Some-Event
returns-in-Some-Event c = (
  took_event c.args.ended.now c.args.ends.now c.next.new.self c.in-Some-Event.field-0 c.in-Some-Event.what c.if-ended.false c.next.ensures.lane c.next.ensures.put c.in-Some-Event.ensures.taken c.in-Some-Event.field-0-is,
  search rules,
)
