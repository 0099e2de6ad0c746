-- What the fields of a line say.
use Rattle.std.specs.Prelude.{ℕ, ◌^◌, ◌==◌, nat_lt, ◌&&◌, if◌then◌else◌, List, [], ◌∷◌, drop, codes, decimal, slice_index, Option, Some, None, unwrap_or, option_map}
use Rattle.std.specs.List.{slice_split}
use Rattle.std.specs.Str.{bytes_eq}
use Rattle.std.specs.Str.Parse.{digits_value}
use Rattle.percent_encoding.specs.Percent.{percent_decode}
use Rattle.hdl_value.specs.declared.references.RawRef.{RawRef}
use Rattle.hdl_value.specs.Reading.{◌>>=◌}
use Rattle.hdl_value_lines.specs.Fields.{cut_at, number_in}
use Rattle.hdl_history.specs.declared.entry.Operation.{Operation}
use Rattle.hdl_history.specs.declared.entry.Operation.TheVariants as operation
use Rattle.hdl_history.specs.declared.entry.Author.{Author}
use Rattle.hdl_history.specs.declared.entry.Author.TheVariants as author
use Rattle.hdl_history.specs.declared.entry.ValuesBefore.{ValuesBefore}
use Rattle.hdl_history.specs.declared.entry.ValuesBefore.TheVariants as before
use Rattle.hdl_history.specs.Lines.{tab, comma, colon, left_out, escaped}

abbrev pub operation_named : List ℕ → Option Operation
operation_named word =
    if bytes_eq word (codes "create") then Some operation.Create
    else if bytes_eq word (codes "delete") then Some operation.Delete
    else if bytes_eq word (codes "add") then Some operation.Add
    else if bytes_eq word (codes "remove") then Some operation.Remove
    else if bytes_eq word (codes "modify") then Some operation.Modify
    else None

-- the number below 2^64 that is written so in decimal
unfoldable pub long_in : List ℕ → Option ℕ
long_in word = if bytes_eq (decimal (digits_value 10 word)) word && nat_lt (digits_value 10 word) (2 ^ 64) then Some (digits_value 10 word) else None

-- the octets that are escaped just so
unfoldable pub unescaped : List ℕ → Option (List ℕ)
unescaped text = if bytes_eq (escaped (percent_decode text)) text then Some (percent_decode text) else None

-- INDEX:HANDLE
unfoldable pub key_in : List ℕ → Option RawRef
key_in text = do
  i ← cut_at colon text
  index ← number_in i.0
  handle ← unescaped i.1
  Some (record { handle = handle; index = index })

abbrev pub author_in : List ℕ → Option Author
author_in text =
    if bytes_eq text (codes "-") then Some author.Anyone
    else if bytes_eq text (codes "*") then Some author.OtherServer
    else (key_in text >>= λ key. Some (author.Key key))

-- what each word says, if each is a number
abbrev pub numbers_in : List (List ℕ) → Option (List ℕ)
numbers_in [] = Some []
numbers_in (word ∷ words) = do
  n ← number_in word
  ns ← numbers_in words
  Some (n ∷ ns)

abbrev pub indexes_in : List ℕ → Option (List ℕ)
indexes_in text = if bytes_eq text (codes "-") then Some [] else numbers_in (slice_split (λ octet. octet == comma) text)

-- the fields behind the indexes: the number of values that were left out, or the line of each
abbrev pub before_in : Option (List ℕ) → Option ValuesBefore
before_in None = Some (before.Lines [])
before_in (Some text) =
    if slice_index text 0 == left_out
    then (long_in (drop 1 text) >>= λ count. Some (before.LeftOut count))
    else Some (before.Lines (slice_split (λ octet. octet == tab) text))

-- ---- a field and the tab behind it

unfoldable pub moment_at : List ℕ → Option (ℕ × List ℕ)
moment_at text = do
  x ← cut_at tab text
  moment ← long_in x.0
  Some (moment, x.1)

unfoldable pub operation_at : List ℕ → Option (Operation × List ℕ)
operation_at text = do
  x ← cut_at tab text
  operation ← operation_named x.0
  Some (operation, x.1)

unfoldable pub handle_at : List ℕ → Option (List ℕ × List ℕ)
handle_at text = do
  x ← cut_at tab text
  handle ← unescaped x.0
  Some (handle, x.1)

unfoldable pub author_at : List ℕ → Option (Author × List ℕ)
author_at text = do
  x ← cut_at tab text
  author ← author_in x.0
  Some (author, x.1)

-- the octets before a first tab, and those behind it if there is one
abbrev pub first_field : List ℕ → List ℕ × Option (List ℕ)
first_field text = unwrap_or (option_map (λ x. (x.0, Some x.1)) (cut_at tab text)) (text, None)
