-- Names whose suffix is drawn.
use Rattle.std.specs.Prelude.{ℕ, ◌%◌, List, ◌++◌, map, slice_index}
use Rattle.hdl_rest.specs.declared.suffix.TheConstants.{LETTERS}

-- the letter that an octet draws
abbrev pub letter : ℕ → ℕ
letter octet = slice_index LETTERS.now (octet % 32)

-- these octets, and behind them the letters that the others draw
abbrev pub with_suffix : List ℕ → List ℕ → List ℕ
with_suffix front drawn = front ++ map letter drawn
