-- What a server puts into the list of changes, and what an entry of it makes.
use Rattle.std.specs.Prelude.{◌≡◌, ℕ, List, Ok}
use Rattle.hdl_rows.specs.Write.{Write}
use Rattle.hdl_ops.specs.declared.change.Change.{Change}
use Rattle.hdl_ops.specs.Tables.{write_of, stamped_write}
use Rattle.hdl_journal_entries.specs.declared.chain.Chain.{Chain}
use Rattle.hdl_journal_entries.specs.declared.entry.DatedMessage.{DatedMessage}
use Rattle.hdl_journal_entries.specs.Changes.{change_in}
use Rattle.hdl_change_list.specs.Sequence.{IsPut}

-- the write that a change makes at this moment
abbrev pub write_at : ℕ → Change → Write
write_at moment change = stamped_write moment (write_of change)

-- The message reads as a change that makes the write at the message's moment.
pub record IsOfWrite (write : Write) (message : DatedMessage) : Type 0 where
  pub change : Change
  pub reads : change_in message.message ≡ Ok change
  pub makes : write_at message.moment change ≡ write

-- The text puts one entry behind those that were taken. Its one change makes the write.
pub record PutsWrite (name : List ℕ) (chain : Chain) (write : Write) (nonce : List ℕ) (behind : Chain) (text : List ℕ) : Type 0 where
  pub message : DatedMessage
  pub is_of : IsOfWrite write message
  pub put : IsPut name chain message nonce behind text
