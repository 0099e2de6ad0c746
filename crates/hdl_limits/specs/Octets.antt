-- Octets: numbers of eight bits.
use Rattle.std.specs.Prelude.{ℕ, ◌<◌, List, slice_index}

-- each item is an octet
abbrev pub AreOctets : List ℕ → Type 0
AreOctets octets = (i : ℕ) → slice_index octets i < 256
