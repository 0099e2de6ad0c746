use Rattle.std.proofs.Common.{inl, inr, subst, Contains}
use Rattle.hdl_audit.proofs.Own.{own_challenge}
use Rattle.hdl_audit.proofs.follower.Follower.note_reply.Goals as goal

pub returns-clause-challenged : goal.returns-clause-challenged
returns-clause-challenged c = λ x h. elim (c.entry_of-entry.ensures.challenged x h) [
  | inl old ↦ inl (subst (λ all. Contains all x) c.take_request_kind-request_kind.ensures.challenged old)
  | inr new ↦ inr (own_challenge c.args.self.now.unanswered.items c.args.peer _ c.in_ok-answer.answer c.take_request_kind-request_kind.result x c.in_ok-answer.ensures c.take_request_kind-request_kind.ensures.asked new)
]
