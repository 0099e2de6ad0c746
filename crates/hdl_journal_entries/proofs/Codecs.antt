-- The reader of entries: what is read is written there, and what is written is read again.
use Rattle.std.proofs.Common.{ℕ, ◌^◌, ◌<◌, List, refl}
use Rattle.std.specs.Int.{w64, to_be_bytes}
use Rattle.std.specs.List.{AllByRecursion}
use Rattle.std.specs.Prelude.{length}
use Rattle.hdl_value.specs.Reading.{number_at, octets_at, IsCodec}
use Rattle.hdl_value.proofs.FieldLaws.{IsLong, wide64}
use Rattle.hdl_value.proofs.Codecs.{number_codec, octets_codec, string_codec, pair_codec, seen_codec, counted_codec}
use Rattle.hdl_value.proofs.Values.{refit}
use Rattle.hdl_journal_entries.specs.declared.entry.DatedMessage.{DatedMessage}
use Rattle.hdl_journal_entries.specs.Keys.{chain_of, chain_at, chain_octets, ChainFits}
use Rattle.hdl_journal_entries.specs.Entries.{dated, dated_at, dated_octets, DatedFits, Head, head_layout, head_at, messages_at, messages, entry_of, parts_of, entry_at, entry_octets, EntryFits}

abbrev HeadFits : Head → Type 0
HeadFits h = (h.0 < 2 ^ 64) × (IsLong 16 h.1.0 × IsLong 32 h.1.1)

head_codec : IsCodec head_at (λ h. head_layout.write h) HeadFits
unfolding head_at
head_codec =
    let sums = pair_codec (octets_at 16) (λ t. t) (IsLong 16) (octets_at 32) (λ t. t) (IsLong 32) (octets_codec 16) (octets_codec 32) in
    pair_codec (number_at w64) (to_be_bytes w64) (λ n. n < 2 ^ 64) _ _ _ (number_codec w64 (2 ^ 64) wide64) sums

dated_codec : IsCodec dated_at dated_octets DatedFits
unfolding dated_at
dated_codec = seen_codec _ _ _ dated (λ m. (m.moment, m.message)) (λ _. refl) (λ _. refl) (pair_codec (number_at w64) (to_be_bytes w64) (λ n. n < 2 ^ 64) _ _ _ (number_codec w64 (2 ^ 64) wide64) string_codec)

abbrev MessagesFit : List DatedMessage → Type 0
MessagesFit all = (length all < 2 ^ 32) × AllByRecursion DatedFits all

messages_codec : IsCodec messages_at messages MessagesFit
unfolding messages_at
messages_codec = counted_codec dated_at dated_octets DatedFits dated_codec

pub entry_codec : IsCodec entry_at entry_octets EntryFits
unfolding entry_at entry_octets
entry_codec =
    let all = pair_codec head_at (λ h. head_layout.write h) HeadFits messages_at messages MessagesFit head_codec messages_codec in
    refit entry_at entry_octets _ EntryFits
    (λ e h. record { number = h.0.0; nonce = h.0.1.0; before = h.0.1.1; changes = h.1 })
    (λ e h. ((h.number, (h.nonce, h.before)), h.changes))
    (seen_codec _ _ _ entry_of parts_of (λ _. refl) (λ _. refl) all)

pub chain_codec : IsCodec chain_at chain_octets ChainFits
unfolding chain_at
chain_codec = seen_codec _ _ _ chain_of (λ chain. (chain.number, chain.sum)) (λ _. refl) (λ _. refl) (pair_codec (number_at w64) (to_be_bytes w64) (λ n. n < 2 ^ 64) _ _ _ (number_codec w64 (2 ^ 64) wide64) (octets_codec 32))
