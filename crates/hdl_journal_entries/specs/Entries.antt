-- Entries, by which they are read and written. Numbers are in network order, the highest octet first.
use Rattle.std.specs.Prelude.{◌≡◌, ◌⊎◌, ℕ, ◌<◌, ◌^◌, List, length, Option, Result, Err, ok_or}
use Rattle.std.specs.List.{AllByRecursion}
use Rattle.std.specs.Int.{w64}
use Rattle.hdl_limits.specs.Octets.{AreOctets}
use Rattle.hdl_value.specs.Reading.{Layout, octets_layout, number_layout, pair_layout, seen_layout, named_layout, counted_layout, whole_of}
use Rattle.hdl_value.specs.Spelling.{IsString, string_layout}
use Rattle.hdl_journal_entries.specs.declared.entry.DatedMessage.{DatedMessage}
use Rattle.hdl_journal_entries.specs.declared.entry.Entry.{Entry}
use Rattle.hdl_journal_entries.specs.declared.entry.EntryFault.{EntryFault}
use Rattle.hdl_journal_entries.specs.declared.entry.EntryFault.TheVariants.{Memory, Malformed}

-- ---- the layout: number, nonce and sum, and then the messages

abbrev pub Head : Type 0
Head = ℕ × (List ℕ × List ℕ)

abbrev pub head_layout : Layout Head
head_layout = pair_layout (number_layout w64) (pair_layout (octets_layout 16) (octets_layout 32))

unfoldable pub head_at : List ℕ → Option (Head × List ℕ)
head_at octets = head_layout.read octets

-- a moment and a message
abbrev pub dated : ℕ × List ℕ → DatedMessage
dated x = record { moment = x.0; message = x.1 }

abbrev pub dated_layout : Layout DatedMessage
dated_layout = seen_layout dated (λ m. (m.moment, m.message)) (pair_layout (number_layout w64) string_layout)

unfoldable pub dated_at : List ℕ → Option (DatedMessage × List ℕ)
dated_at octets = dated_layout.read octets

abbrev pub dated_octets : DatedMessage → List ℕ
dated_octets m = dated_layout.write m

abbrev pub messages_layout : Layout (List DatedMessage)
messages_layout = counted_layout (named_layout dated_layout dated_at)

unfoldable pub messages_at : List ℕ → Option (List DatedMessage × List ℕ)
messages_at octets = messages_layout.read octets

abbrev pub messages : List DatedMessage → List ℕ
messages all = messages_layout.write all

abbrev pub entry_of : Head × List DatedMessage → Entry
entry_of x = record { number = x.0.0; nonce = x.0.1.0; before = x.0.1.1; changes = x.1 }

abbrev pub parts_of : Entry → Head × List DatedMessage
parts_of e = ((e.number, (e.nonce, e.before)), e.changes)

abbrev pub entry_layout : Layout Entry
entry_layout = seen_layout entry_of parts_of (pair_layout (named_layout head_layout head_at) (named_layout messages_layout messages_at))

unfoldable pub entry_at : List ℕ → Option (Entry × List ℕ)
entry_at octets = entry_layout.read octets

unfoldable pub entry_octets : Entry → List ℕ
entry_octets e = entry_layout.write e

-- ---- what fits its fields

-- the moment and the message fit their fields
abbrev pub DatedFits : DatedMessage → Type 0
DatedFits m = (m.moment < 2 ^ 64) × IsString m.message

-- each part of the entry fits its field
pub record EntryFits (e : Entry) : Type 0 where
  pub number : e.number < 2 ^ 64
  pub nonce : (length e.nonce ≡ 16) × AreOctets e.nonce
  pub before : (length e.before ≡ 32) × AreOctets e.before
  pub changes : (length e.changes < 2 ^ 32) × AllByRecursion DatedFits e.changes

-- lengths and the count fit their four octets
abbrev pub AreWritable : List DatedMessage → Type 0
AreWritable all = (length all < 2 ^ 32) × AllByRecursion (λ m. length m.message < 2 ^ 32) all

abbrev pub IsWritable : Entry → Type 0
IsWritable e = AreWritable e.changes

-- ---- reading

-- why nothing is read: there was no memory, or what is wrong
abbrev pub IsFault : {A : Type 0} → Result A EntryFault → EntryFault → Type 0
IsFault told e = (e ≡ Memory) ⊎ (told ≡ Err e)

-- the entry that the octets are, all of them
abbrev pub entry_in : List ℕ → Result Entry EntryFault
entry_in octets = ok_or (whole_of entry_at octets) Malformed
