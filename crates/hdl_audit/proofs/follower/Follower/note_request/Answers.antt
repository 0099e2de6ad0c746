use Rattle.std.proofs.Common.{inl, inr}
use Rattle.hdl_audit.proofs.Own.{peer_of}
use Rattle.hdl_audit.proofs.follower.Follower.note_request.Goals as goal

pub returns-clause-frames : goal.returns-clause-frames
returns-clause-frames c = λ x h. elim (c.put.ensures.frames x h) [
  | inl old ↦ inl old
  | inr same ↦ inr (peer_of c.question-question.result c.args.peer x same c.question-question.ensures.own)
]
