-- What stands in octets, as it is read.
use Rattle.hdl_journal_entries.specs.declared.reading.Head.{Head}
use Rattle.hdl_journal_entries.specs.Entries as entries

-- the fields before the changes
abbrev pub head_view : Head → entries.Head
head_view h = (h.number, (h.nonce, h.before))
