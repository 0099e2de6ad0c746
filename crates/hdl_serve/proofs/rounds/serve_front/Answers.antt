use Rattle.std.proofs.Common.{◌≡◌, ◌⊎◌, [], true, false, refl, sym, subst}
use Rattle.std.specs.Prelude.{IsFalse}
use Rattle.hdl_write_queue.specs.Waiting.{is_turn}
use Rattle.hdl_workers.specs.declared.ends.LaneEnds.{LaneEnds}
use Rattle.hdl_serve.specs.Rounds.{Passes}
use Rattle.hdl_serve.proofs.Steps.{passes_first, passes_nothing, serves_going, serves_none, took_last, puts_nothing, puts_none, puts_later}
use Rattle.hdl_serve.proofs.rounds.serve_front.Goals as goal

pub returns-then-ended-clause-served : goal.returns-then-ended-clause-served
returns-then-ended-clause-served g c = serves_none c.args.ended.now c.args.ended.now _ c.args.ends.now c.args.ends.now (passes_nothing c.args.ended.now c.args.ends.now)

pub returns-then-ended-clause-owed : goal.returns-then-ended-clause-owed
returns-then-ended-clause-owed g c = λ sure owes. puts_nothing c.args.ends.now

pub returns-then-not-is_ready-clause-served : goal.returns-then-not-is_ready-clause-served
returns-then-not-is_ready-clause-served g c = serves_none c.args.ended.now c.args.ended.now _ c.args.ends.now c.is_ready.new.ends (c.is_ready.ensures.passes c.args.ended.now)

pub returns-then-not-is_ready-clause-owed : goal.returns-then-not-is_ready-clause-owed
returns-then-not-is_ready-clause-owed g c = λ sure owes. puts_none false false c.args.ends.now c.is_ready.new.ends (c.is_ready.ensures.passes false)

pub returns-in-End : goal.returns-in-End
returns-in-End g c =
    let ready : LaneEnds = c.is_ready.new.ends in
    let taken : LaneEnds = record { lane = ready.lane; items = c.take_front.new.self; outcomes = ready.outcomes } in
    let passes : Passes c.args.ended.now true [] [] c.args.ends.now taken =
    passes_first c.args.ended.now true [] [] c.args.ends.now ready taken (c.is_ready.ensures.passes c.args.ended.now)
    (took_last c.args.ended.now ready taken c.take_front.result c.if-ended.false c.in-End.ensures c.take_front.ensures.front refl c.take_front.ensures.lane refl c.take_front.ensures.taken) in
    record {
      served = serves_none c.args.ended.now true _ c.args.ends.now taken passes;
      owed = λ sure owes. puts_none c.args.ended.now true c.args.ends.now taken passes;
    }

pub returns-in-Event-clause-served : goal.returns-in-Event-clause-served
returns-in-Event-clause-served g c = serves_going c.args.ended.now _ _ c.args.ends.now c.is_ready.new.ends c.serve_copy.new.ends c.if-ended.false (c.is_ready.ensures.passes false) c.serve_copy.ensures.served

pub returns-in-Event-clause-owed : goal.returns-in-Event-clause-owed
returns-in-Event-clause-owed g c = λ sure owes.
    let passes : Passes false false [] [] c.args.ends.now c.is_ready.new.ends = c.is_ready.ensures.passes false in
    let surely = subst (λ lane. IsFalse c.args.seen.is_cut ⊎ (is_turn c.args.queue.now lane ≡ true)) (sym passes.lane) sure in
    puts_later false false c.args.ends.now c.is_ready.new.ends c.serve_copy.new.ends passes (c.serve_copy.ensures.owed surely owes)

pub returns-in-NoMemory-clause-served : goal.returns-in-NoMemory-clause-served
returns-in-NoMemory-clause-served g c = serves_none c.args.ended.now c.args.ended.now _ c.args.ends.now c.is_ready.new.ends (c.is_ready.ensures.passes c.args.ended.now)

pub returns-in-NoMemory-clause-owed : goal.returns-in-NoMemory-clause-owed
returns-in-NoMemory-clause-owed g c = λ sure owes. puts_none false false c.args.ends.now c.is_ready.new.ends (c.is_ready.ensures.passes false)
