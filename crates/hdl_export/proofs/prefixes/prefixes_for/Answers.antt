use Rattle.std.proofs.lemmas.Iterator.Splits.{YieldsList-from_lines}
use Rattle.std.proofs.lemmas.Iterator.Consumers.{YieldsList-at, YieldsList-end}
use Rattle.hdl_export.proofs.prefixes.prefixes_for.Goals as goal

pub returns : goal.returns
returns c =
    let road = YieldsList-at c.into_iter-line-iterator.ensures.into_iter_gives (YieldsList-from_lines {s = c.lines-line-items.result} c.args.text.now c.lines-line-items.ensures.rest) in
    let whole = YieldsList-end road c.loop-line.yielded c.loop-line.line-iterator c.loop-line.yielded_by c.next.result c.next.new.self c.in-None.is c.next.ensures.steps in
    rw (← whole.0) c.loop-line.invariant
