-- The parts of changes.
use Rattle.std.proofs.Common.{◌≡◌, ◌<◌, ◌-◌, ◌++◌, ◌∷◌, [], refl, subst, arith, ℕ, List, length, take, drop, get_or, length-drop}
use Rattle.std.proofs.lemmas.List.{take_all}
use Rattle.hdl_history.specs.declared.entry.Entry.{Entry}
use Rattle.hdl_forms.specs.History.{IsEntries, IsEntryPart}

-- the part of the first, and behind it those of the others
pub entries_more : (entries : List Entry) (d x : Entry) (first rest : List ℕ) → 0 < length entries → x ≡ get_or entries 0 d → IsEntryPart x first → IsEntries (drop 1 entries) rest
    → IsEntries entries (first ++ rest)
entries_more [] d x first rest less item part more = absurd (omega (arith, less))
entries_more (entry ∷ entries) d x first rest less item part more = (first, rest, subst (λ e. IsEntryPart e first) item part, more, refl)

-- all behind the first
pub others : (entries : List Entry) → take (length entries - 1) (drop 1 entries) ≡ drop 1 entries
others entries = take_all (length entries - 1) (drop 1 entries) (omega (arith, length-drop 1 entries))
