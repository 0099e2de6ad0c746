-- The line of a change.
use Rattle.std.specs.Prelude.{ℕ, nat_lt, if◌then◌else◌, List, [], ◌∷◌, ◌++◌, length, map, codes, decimal}
use Rattle.std.specs.List.{flat_map}
use Rattle.percent_encoding.specs.Percent.{percent_encode}
use Rattle.hdl_value.specs.declared.value.Value.{Value}
use Rattle.hdl_value.specs.Refs.{is_secret_key}
use Rattle.hdl_value_lines.specs.Hiding.{hidden_text, hidden_count, whole_line}
use Rattle.hdl_history.specs.declared.fields.TheConstants.{ESCAPED}
use Rattle.hdl_history.specs.declared.write.TheConstants.{VALUES_TEXT_MAX}
use Rattle.hdl_history.specs.declared.entry.Operation.{Operation}
use Rattle.hdl_history.specs.declared.entry.Operation.TheVariants as operation
use Rattle.hdl_history.specs.declared.entry.Author.{Author}
use Rattle.hdl_history.specs.declared.entry.Author.TheVariants as author
use Rattle.hdl_history.specs.declared.entry.ValuesBefore.{ValuesBefore}
use Rattle.hdl_history.specs.declared.entry.ValuesBefore.TheVariants as before
use Rattle.hdl_history.specs.declared.entry.Entry.{Entry}

-- a tab stands between fields, ',' between indexes, ':' behind that of a key, '!' before the number of values that were left out
abbrev pub tab : ℕ
tab = 9

abbrev pub comma : ℕ
comma = 44

abbrev pub colon : ℕ
colon = 58

abbrev pub left_out : ℕ
left_out = 33

-- ---- the line of an entry

abbrev pub operation_word : Operation → List ℕ
operation_word operation.Create = codes "create"
operation_word operation.Delete = codes "delete"
operation_word operation.Add = codes "add"
operation_word operation.Remove = codes "remove"
operation_word operation.Modify = codes "modify"

-- a handle, escaped
abbrev pub escaped : List ℕ → List ℕ
escaped handle = percent_encode ESCAPED handle

-- `-` for anyone, `*` for another server, INDEX:HANDLE of a key
abbrev pub author_text : Author → List ℕ
author_text author.Anyone = codes "-"
author_text author.OtherServer = codes "*"
author_text (author.Key key) = decimal key.index ++ colon ∷ escaped key.handle

-- `-` for none, or numbers with commas between
abbrev pub indexes_text : List ℕ → List ℕ
indexes_text [] = codes "-"
indexes_text (index ∷ indexes) = decimal index ++ flat_map (λ i. comma ∷ decimal i) indexes

-- a field and a tab behind it
abbrev pub field : List ℕ → List ℕ
field octets = octets ++ tab ∷ []

-- lines, and a tab before each
abbrev pub lines_text : List (List ℕ) → List ℕ
lines_text lines = flat_map (λ line. tab ∷ line) lines

abbrev pub before_text : ValuesBefore → List ℕ
before_text (before.Lines lines) = lines_text lines
before_text (before.LeftOut count) = tab ∷ left_out ∷ decimal count

-- the line without its end
unfoldable pub line_of : Entry → List ℕ
line_of e =
    field (decimal e.moment) ++ (field (operation_word e.operation) ++ (field (escaped e.handle) ++ (field (author_text e.author)
    ++ (indexes_text e.indexes ++ before_text e.before))))

-- ---- the values before

-- the line of a value: of a key the index, the type and how many octets its data has
abbrev pub shown : Value → List ℕ
shown v = if is_secret_key v then hidden_text v.index v.kind (hidden_count v) else whole_line v

-- their lines, unless these are too long together
unfoldable pub values_before : List Value → ValuesBefore
values_before vs =
    if nat_lt VALUES_TEXT_MAX (length (lines_text (map shown vs))) then before.LeftOut (length vs) else before.Lines (map shown vs)
