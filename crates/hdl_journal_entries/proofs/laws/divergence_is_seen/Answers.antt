use Rattle.hdl_journal_entries.proofs.Chains.{divergence_is_seen}
use Rattle.hdl_journal_entries.proofs.laws.divergence_is_seen.Goals as goal

pub returns : goal.returns
returns c = divergence_is_seen
