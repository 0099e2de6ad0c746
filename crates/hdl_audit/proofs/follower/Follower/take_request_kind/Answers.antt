use Rattle.std.proofs.Common.{inr, refl}
use Rattle.hdl_audit.proofs.Gains.{first_there, kept_by_pop, one_of_none}
use Rattle.hdl_audit.proofs.follower.Follower.take_request_kind.Goals as goal

pub loop-preserved : goal.loop-preserved
loop-preserved c = record {
  frames = λ x h. c.loop.invariant.frames x (kept_by_pop c.pop_front.result c.loop.self.unanswered.items c.pop_front.new.self.items c.pop_front.ensures.items x h);
  challenged = c.loop.invariant.challenged;
}

pub returns-in-Some-pop_front-clause-asked : goal.returns-in-Some-pop_front-clause-asked
returns-in-Some-pop_front-clause-asked c =
    let question = c.in-Some-pop_front.question in
    inr (
      question,
      one_of_none (c.loop.invariant.frames question (first_there question c.loop.self.unanswered.items c.pop_front-2.new.self.items c.in-Some-pop_front.ensures.items)),
      c.if-pop_front-peer.true,
      refl,
    )
