use Rattle.std.proofs.Common.{inr, refl, rules}
use Rattle.hdl_forms.proofs.draft.read_draft.Goals as goal

pub returns-then-not-is_alias_usable-clause-fault : goal.returns-then-not-is_alias_usable-clause-fault
returns-then-not-is_alias_usable-clause-fault c = inr (inr (inr (c.in_ok-draft.draft, refl, c.in_ok-draft.ensures.draft, search rules)))
