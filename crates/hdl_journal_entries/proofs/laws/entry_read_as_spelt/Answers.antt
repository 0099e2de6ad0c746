use Rattle.hdl_journal_entries.proofs.Codecs.{entry_codec}
use Rattle.hdl_journal_entries.proofs.laws.entry_read_as_spelt.Goals as goal

pub returns : goal.returns
returns c = entry_codec
