-- The list of changes: what is read of it, and what is put behind it.
use Rattle.std.specs.Prelude.{◌≡◌, ℕ, Bool, false, List, [], ◌∷◌, Option, Some, None, option_map, unwrap_or, nat_le}
use Rattle.std.specs.List.{AllZip, Any}
use Rattle.serde_json.specs.Read.{read}
use Rattle.hdl_journal_entries.specs.declared.entry.Entry.{Entry}
use Rattle.hdl_journal_entries.specs.declared.entry.DatedMessage.{DatedMessage}
use Rattle.hdl_journal_entries.specs.declared.chain.Chain.{Chain}
use Rattle.hdl_journal_entries.specs.declared.chain.EntryOrder.TheVariants.{Next}
use Rattle.hdl_journal_entries.specs.declared.keys.Key.TheVariants as key
use Rattle.hdl_journal_entries.specs.Entries.{entry_octets}
use Rattle.hdl_journal_entries.specs.Chain.{place_of, after_entry, chain_after, AreChained}
use Rattle.hdl_journal_entries.specs.Keys.{key_octets, chain_octets, chain_at}
use Rattle.hdl_value.specs.Reading.{whole_of}
use Rattle.hdl_etcd.specs.declared.asking.Compare.{Compare}
use Rattle.hdl_etcd.specs.declared.asking.Compare.TheVariants.{Has, IsAbsent}
use Rattle.hdl_etcd.specs.declared.asking.Operation.{Operation}
use Rattle.hdl_etcd.specs.declared.asking.Operation.TheVariants.{Put, Delete}
use Rattle.hdl_etcd.specs.declared.asking.Transaction.{Transaction}
use Rattle.hdl_etcd.specs.Asking.{transaction_json}
use Rattle.hdl_change_list.specs.declared.keyed.KeyWrite.{KeyWrite}

-- ---- what is read

-- each of the entries is the next one of those before it, and the chain behind them is the new one
abbrev pub Follow : Chain → Chain → List Entry → Type 0
Follow old new entries = AreChained old entries × (new ≡ chain_after old entries)

-- an entry that was taken is the next one; if none was, the chain is as it was
abbrev pub FollowsOne : Chain → Chain → Option Entry → Type 0
FollowsOne old new None = new ≡ old
FollowsOne old new (Some entry) = (place_of old entry ≡ Next) × (new ≡ after_entry entry.number (entry_octets entry))

-- the octets are a head, all changes of which were taken
abbrev pub is_taken : Chain → List ℕ → Bool
is_taken chain head = unwrap_or (option_map (λ (told : Chain). nat_le told.number chain.number) (whole_of chain_at head)) false

-- ---- what is put

-- the head has the chain, or was never made if the chain has no entry
abbrev pub IsAsTaken : List ℕ → Chain → Compare → Type 0
IsAsTaken name chain (Has head value) = (head.now ≡ key_octets name key.Head) × (value.now ≡ chain_octets chain)
IsAsTaken name chain (IsAbsent head) = (head.now ≡ key_octets name key.Head) × (chain.number ≡ 0)

-- the write puts this value at this key
abbrev pub Writes : List ℕ → List ℕ → KeyWrite → Type 0
Writes key value write = (write.key.items ≡ key) × (option_map (λ octets. octets.items) write.value ≡ Some value)

-- so does the operation
abbrev pub Puts : List ℕ → List ℕ → Operation → Type 0
Puts key value (Put at octets) = (at.now ≡ key) × (octets.now ≡ value)
Puts key value (Delete at) = ⊥

-- the operation makes the write
abbrev pub Makes : KeyWrite → Operation → Type 0
Makes write (Put at octets) = (at.now ≡ write.key.items) × (option_map (λ octets. octets.items) write.value ≡ Some octets.now)
Makes write (Delete at) = (at.now ≡ write.key.items) × (write.value ≡ None)

-- If the head is as it was taken, the writes are made in their order. Else the other key is read.
pub record IsFenced (name : List ℕ) (chain : Chain) (writes : List KeyWrite) (otherwise : List ℕ) (transaction : Transaction) : Type 0 where
  pub fence : IsAsTaken name chain transaction.fence
  pub operations : AllZip Makes writes transaction.operations.now
  pub reads : transaction.otherwise.now ≡ otherwise

-- The text is a transaction, which is made only if the head is as it was taken. It puts one entry behind those that were taken, with this change and nonce, and the head with it.
pub record IsPut (name : List ℕ) (chain : Chain) (change : DatedMessage) (nonce : List ℕ) (behind : Chain) (text : List ℕ) : Type 0 where
  pub entry : Entry
  pub next : place_of chain entry ≡ Next
  pub changes : entry.changes ≡ change ∷ []
  pub is_own : entry.nonce ≡ nonce
  pub is_behind : behind ≡ after_entry entry.number (entry_octets entry)
  pub transaction : Transaction
  pub reads : read text ≡ Some (transaction_json transaction)
  pub fence : IsAsTaken name chain transaction.fence
  pub puts_entry : Any (Puts (key_octets name (key.Entry entry.number)) (entry_octets entry)) transaction.operations.now
  pub puts_head : Any (Puts (key_octets name key.Head) (chain_octets behind)) transaction.operations.now
