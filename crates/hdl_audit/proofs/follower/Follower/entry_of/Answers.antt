use Rattle.std.proofs.Common.{inl, inr, refl, sym, ◌∙◌}
use Rattle.hdl_audit.proofs.Own.{challenged_by}
use Rattle.hdl_audit.proofs.follower.Follower.entry_of.Goals as goal

pub returns-in-Change-clause-challenged : goal.returns-in-Change-clause-challenged
returns-in-Change-clause-challenged c = λ x h. elim (c.put_challenged.ensures.challenged x h) [
  | inl old ↦ inl old
  | inr same ↦ inr (challenged_by c.args.request_kind c.args.peer c.args.answer x _ same c.in-Change.is refl refl (sym c.is_challenge.ensures ∙ c.if-is_challenge.true))
]

pub returns-in-Response-clause-challenged : goal.returns-in-Response-clause-challenged
returns-in-Response-clause-challenged c = λ x h. elim (c.entry_of_response.ensures.kept x h) [
  | inl old ↦ inl old
  | inr w ↦ absurd w
]
