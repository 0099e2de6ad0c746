-- The last entries of a handle in a file.
use Rattle.std.specs.Prelude.{ℕ, ◌-◌, ◌==◌, Bool, false, List, length, take, reverse, filter, Option, Some, None}
use Rattle.std.specs.List.{slice_split, filter_map}
use Rattle.std.specs.Result.{result_ok}
use Rattle.std.specs.Str.{bytes_eq}
use Rattle.hdl_value.specs.Reading.{◌>>=◌}
use Rattle.hdl_value_lines.specs.Fields.{cut_at}
use Rattle.hdl_history.specs.declared.entry.Entry.{Entry}
use Rattle.hdl_history.specs.Lines.{tab, escaped}
use Rattle.hdl_history.specs.Read.{entry_in}

-- what stands before each line end: what follows the last one is no line
abbrev pub parts : List ℕ → List (List ℕ)
parts octets = slice_split (λ octet. octet == 10) octets

unfoldable pub lines : List ℕ → List (List ℕ)
lines octets = take (length (parts octets) - 1) (parts octets)

-- the third field, where a tab follows
unfoldable pub handle_field : List ℕ → Option (List ℕ)
handle_field line = do
  m ← cut_at tab line
  o ← cut_at tab m.1
  h ← cut_at tab o.1
  Some h.0

-- it is this text
abbrev pub is_text : List ℕ → Option (List ℕ) → Bool
is_text text None = false
is_text text (Some field) = bytes_eq field text

abbrev pub names : List ℕ → List ℕ → Bool
names text line = is_text text (handle_field line)

-- the last lines of a handle, the newest first
unfoldable pub last_lines : ℕ → List ℕ → List ℕ → List (List ℕ)
last_lines count handle octets = take count (reverse (filter (names (escaped handle)) (lines octets)))

-- the entries that these say
abbrev pub entries_in : List (List ℕ) → List Entry
entries_in ls = filter_map (λ line. result_ok (entry_in line)) ls
