-- Chains of entries: each bears its number, and the sum of those before it.
use Rattle.std.specs.Prelude.{◌≡◌, ◌≢◌, ◌⊎◌, ℕ, ◌+◌, List, [], ◌∷◌, length, nat_le, nat_lt, if◌then◌else◌, replicate, ⊤}
use Rattle.std.specs.List.{AllByRecursion}
use Rattle.std.specs.Str.{bytes_eq}
use Rattle.sha2.specs.Sha256.{sha256}
use Rattle.hdl_journal_entries.specs.declared.entry.Entry.{Entry}
use Rattle.hdl_journal_entries.specs.declared.chain.Chain.{Chain}
use Rattle.hdl_journal_entries.specs.declared.chain.EntryOrder.{EntryOrder}
use Rattle.hdl_journal_entries.specs.declared.chain.EntryOrder.TheVariants.{Next, Earlier, Later, Elsewhere}
use Rattle.hdl_journal_entries.specs.Entries.{entry_octets, EntryFits}

-- the sum of no entries
abbrev pub first_sum : List ℕ
first_sum = replicate 32 0

-- the chain behind an entry of this number and with these octets
abbrev pub after_entry : ℕ → List ℕ → Chain
after_entry number octets = record { number = number; sum = sha256 octets }

-- where an entry stands, seen from a chain
abbrev pub place_of : Chain → Entry → EntryOrder
place_of chain e =
    if nat_le e.number chain.number then Earlier
    else if nat_lt (chain.number + 1) e.number then Later
    else if bytes_eq e.before chain.sum then Next
    else Elsewhere

-- the chain behind entries, in turn
abbrev pub chain_after : Chain → List Entry → Chain
chain_after chain [] = chain
chain_after chain (e ∷ es) = chain_after (after_entry e.number (entry_octets e)) es

-- each entry is the next one of those before it
abbrev pub AreChained : Chain → List Entry → Type 0
AreChained chain [] = ⊤
AreChained chain (e ∷ es) = (place_of chain e ≡ Next) × AreChained (after_entry e.number (entry_octets e)) es

-- two different texts with one sum
abbrev pub HaveOneSum : Type 0
HaveOneSum = (a : List ℕ) × (b : List ℕ) × (a ≢ b) × (sha256 a ≡ sha256 b)

-- two chains from one beginning, equally long, with equal sums, have the same entries, or two texts with one sum were found
abbrev pub DivergenceIsSeen : Type 0
DivergenceIsSeen =
    (chain : Chain) (es es' : List Entry) → AllByRecursion EntryFits es → AllByRecursion EntryFits es' → AreChained chain es → AreChained chain es' → length es ≡ length es'
    → (chain_after chain es).sum ≡ (chain_after chain es').sum → (es ≡ es') ⊎ HaveOneSum
