-- The keys of a cluster, all below its name, and the octets at its head.
use Rattle.std.specs.Prelude.{◌≡◌, ℕ, ◌<◌, ◌^◌, List, ◌++◌, codes, length, Option}
use Rattle.std.specs.Int.{w32, w64, to_be_bytes}
use Rattle.hex.specs.Hex.{encode_lower}
use Rattle.hdl_name.specs.Name.{canonical}
use Rattle.hdl_limits.specs.Octets.{AreOctets}
use Rattle.hdl_value.specs.Reading.{Layout, octets_layout, number_layout, pair_layout, seen_layout}
use Rattle.hdl_journal_entries.specs.declared.chain.Chain.{Chain}
use Rattle.hdl_journal_entries.specs.declared.keys.Key.{Key}
use Rattle.hdl_journal_entries.specs.declared.keys.Key.TheVariants.{Head, Entry, Handle, Value, Opened}

-- below the name: the head, an entry, a handle, one of its values, and that it was opened; numbers in hexadecimal digits
abbrev pub key_octets : List ℕ → Key → List ℕ
key_octets name Head = name ++ codes "/head"
key_octets name (Entry number) = name ++ (codes "/e/" ++ encode_lower (to_be_bytes w64 number))
key_octets name (Handle handle) = name ++ (codes "/h/" ++ canonical handle.now)
key_octets name (Value handle index) = name ++ (codes "/v/" ++ (canonical handle.now ++ (codes "/" ++ encode_lower (to_be_bytes w32 index))))
key_octets name (Opened handle) = name ++ (codes "/o/" ++ canonical handle.now)

-- ---- the head: how many entries there are, and their sum

abbrev pub chain_of : ℕ × List ℕ → Chain
chain_of x = record { number = x.0; sum = x.1 }

abbrev pub chain_layout : Layout Chain
chain_layout = seen_layout chain_of (λ chain. (chain.number, chain.sum)) (pair_layout (number_layout w64) (octets_layout 32))

unfoldable pub chain_at : List ℕ → Option (Chain × List ℕ)
chain_at octets = chain_layout.read octets

abbrev pub chain_octets : Chain → List ℕ
chain_octets chain = chain_layout.write chain

abbrev pub ChainFits : Chain → Type 0
ChainFits chain = (chain.number < 2 ^ 64) × ((length chain.sum ≡ 32) × AreOctets chain.sum)
