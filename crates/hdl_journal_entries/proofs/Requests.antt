-- The change that a message makes, by the request that it spells.
use Rattle.std.proofs.Common.{◌≡◌, ℕ, List, Option, Some, None, Err, refl}
use Rattle.hdl_limits.specs.Octets.{AreOctets}
use Rattle.hdl_value.specs.declared.wire.Wire.TheVariants.{Profile}
use Rattle.hdl_msg.specs.Message.{Content, SpellsRequest}
use Rattle.hdl_msg.specs.Reading.{request_at}
use Rattle.hdl_msg.proofs.Requests.{request_takes, request_again}
use Rattle.hdl_journal_entries.specs.declared.entry.EntryFault.TheVariants.{NoChange}
use Rattle.hdl_journal_entries.specs.Changes.{change_by, change_in}

pub change_read : (message : List ℕ) (c : Content) → SpellsRequest Profile message c → change_in message ≡ change_by c.operation
unfolding change_in
change_read message c spelt = rw (request_again Profile message c spelt) refl

none_read : (message : List ℕ) (o : Option Content) → AreOctets message → ((c : Content) → SpellsRequest Profile message c → ⊥) → request_at Profile message ≡ o → o ≡ None
none_read message (Some c) octets none e = absurd (none c (request_takes Profile message c octets e))
none_read message None octets none e = refl

pub no_change : (message : List ℕ) → AreOctets message → ((c : Content) → SpellsRequest Profile message c → ⊥) → change_in message ≡ Err NoChange
unfolding change_in
no_change message octets none = rw (none_read message (request_at Profile message) octets none refl) refl
