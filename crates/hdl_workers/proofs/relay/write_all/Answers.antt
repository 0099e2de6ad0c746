use Rattle.std.proofs.Common.{rules, ◌∙◌, take, drop, length, ◌-◌, refl, ap}
use Rattle.hdl_workers.specs.Door.{say}
use Rattle.hdl_workers.proofs.Writes.{say_more, part_of}
use Rattle.hdl_workers.proofs.relay.write_all.Goals as goal

pub loop-at-preserved : goal.loop-at-preserved
loop-at-preserved g c =
    let s = c.args.octets.now in
    record {
      within = search rules;
      turns = search rules;
      connection = search rules;
      said = λ t.
          c.in-Ok.ensures.said t
          ∙ ap (λ d. say (take c.in-Ok.written (take (length s - c.loop-at.at) (drop c.loop-at.at s))) d) (c.loop-at.invariant.said t)
          ∙ say_more _ c.loop-at.at c.in-Ok.written s;
    }

pub returns-then-not-spend-clause-part : goal.returns-then-not-spend-clause-part
returns-then-not-spend-clause-part g c = λ t. rw (c.loop-at.invariant.said t) (part_of _ _ _, refl)

pub returns-in-Err-clause-part : goal.returns-in-Err-clause-part
returns-in-Err-clause-part g c = λ t. rw (c.in-Err.ensures.said t, c.loop-at.invariant.said t) (part_of _ _ _, refl)
