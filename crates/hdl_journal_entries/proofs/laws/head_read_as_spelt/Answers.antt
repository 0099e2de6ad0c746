use Rattle.hdl_journal_entries.proofs.Codecs.{chain_codec}
use Rattle.hdl_journal_entries.proofs.laws.head_read_as_spelt.Goals as goal

pub returns : goal.returns
returns c = chain_codec
