-- The change of one value that the fields of a form say, or the first thing that is wrong with it.
use Rattle.std.specs.Prelude.{◌≡◌, ◌⊎◌, ℕ, ◌==◌, nat_le, nat_lt, Bool, true, false, not, ◌&&◌, ◌||◌, if◌then◌else◌, List, [], ◌∷◌, take, length, codes, Option, Some, None, unwrap_or, Result, Ok, Err, ok_or}
use Rattle.std.specs.List.{list_all}
use Rattle.std.specs.Str.{bytes_eq, trim}
use Rattle.hdl_limits.specs.declared.TheConstants.{DATA_MAX, TYPE_MAX}
use Rattle.hdl_name.specs.Name.{IsHandle}
use Rattle.hdl_value.specs.Reading.{◌>>=◌}
use Rattle.hdl_value_lines.specs.Fields.{is_word, number_in, permissions_in}
use Rattle.hdl_proxy.specs.Url.{IsFollowed}
use Rattle.hdl_rest.specs.Data.{◌>>>◌}
use Rattle.hdl_forms.specs.Address.{IsAddress}
use Rattle.hdl_forms.specs.declared.draft.Draft.{Draft}
use Rattle.hdl_forms.specs.declared.draft.DraftFault.{DraftFault}
use Rattle.hdl_forms.specs.declared.draft.DraftFault.TheVariants as fault
use Rattle.hdl_forms.specs.declared.draft.Task.{Task}
use Rattle.hdl_forms.specs.declared.draft.Task.TheVariants as tasks

-- the value of the first field of this name
abbrev pub first_named : List ℕ → List (List ℕ × List ℕ) → Option (List ℕ)
first_named name [] = None
first_named name (pair ∷ pairs) = if bytes_eq pair.0 name then Some pair.1 else first_named name pairs

-- the same of a field that is typed, without the spaces at its ends
abbrev pub typed : List ℕ → List (List ℕ × List ℕ) → Option (List ℕ)
typed name pairs = first_named name pairs >>= λ text. Some (trim text)

abbrev pub task_named : List ℕ → Option Task
task_named word =
    if bytes_eq word (codes "change") then Some tasks.Change
    else if bytes_eq word (codes "add") then Some tasks.Add
    else if bytes_eq word (codes "remove") then Some tasks.Remove
    else if bytes_eq word (codes "create") then Some tasks.Create
    else None

-- a number from 1 on
abbrev pub some_index : ℕ → Option ℕ
some_index index = if index == 0 then None else Some index

abbrev pub index_in : List ℕ → Option ℕ
index_in text = number_in text >>= some_index

-- a type by whose values the service or the proxy acts, but aliases and HS_GONE
abbrev pub is_reserved : List ℕ → Bool
is_reserved kind = bytes_eq (take 3 kind) (codes "HS_")

abbrev pub is_own_type : List ℕ → Bool
is_own_type kind = bytes_eq kind (codes "HS_ALIAS") || bytes_eq kind (codes "HS_GONE")

abbrev pub is_open : List ℕ → Bool
is_open kind = not (is_reserved kind) || is_own_type kind

abbrev pub is_short : List ℕ → Bool
is_short kind = nat_le (length kind) TYPE_MAX

-- one word of graphic ASCII, not too long, by whose values neither the service nor the proxy acts
abbrev pub is_type : List ℕ → Bool
is_type kind = is_word kind && (is_short kind && is_open kind)

-- no control octet
abbrev pub is_printed : ℕ → Bool
is_printed octet = nat_le 32 octet && not (octet == 127)

abbrev pub are_printed : List ℕ → Bool
are_printed text = list_all is_printed text

abbrev pub word_in : List ℕ → Option (List ℕ)
word_in text = if is_word text then Some text else None

abbrev pub short_kind : List ℕ → Option (List ℕ)
short_kind kind = if is_short kind then Some kind else None

abbrev pub open_kind : List ℕ → Option (List ℕ)
open_kind kind = if is_open kind then Some kind else None

-- a text on one line, which isn't empty nor too long
abbrev pub line_in : List ℕ → Option (List ℕ)
line_in text = if (length text == 0) || nat_lt DATA_MAX (length text) || not (are_printed text) then None else Some text

abbrev pub is_remove : Task → Bool
is_remove tasks.Change = false
is_remove tasks.Add = false
is_remove tasks.Remove = true
is_remove tasks.Create = false

-- ---- the fields

abbrev pub Pairs : Type 0
Pairs = List (List ℕ × List ℕ)

abbrev pub task_of : Pairs → Option Task
task_of pairs = first_named (codes "task") pairs >>= task_named

abbrev pub index_of : Pairs → Option ℕ
index_of pairs = typed (codes "index") pairs >>= index_in

abbrev pub kind_of : Pairs → Option (List ℕ)
kind_of pairs = typed (codes "type") pairs >>= word_in

abbrev pub ttl_of : Pairs → Option ℕ
ttl_of pairs = first_named (codes "ttl") pairs >>= number_in

abbrev pub permissions_of : Pairs → Option ℕ
permissions_of pairs = first_named (codes "permissions") pairs >>= permissions_in

-- what a value gets: nothing if it is removed
abbrev pub text_of : Task → Pairs → Option (List ℕ)
text_of t pairs = if is_remove t then Some [] else (typed (codes "text") pairs >>= line_in)

abbrev pub old_of : Pairs → List ℕ
old_of pairs = unwrap_or (first_named (codes "old") pairs) []

-- ---- the change

unfoldable pub draft_in : Pairs → Result Draft DraftFault
draft_in pairs =
    ok_or (task_of pairs) fault.Task >>> λ t.
    (ok_or (index_of pairs) fault.Index >>> λ index.
    (ok_or (kind_of pairs) fault.Type >>> λ word.
    (ok_or (short_kind word) fault.TypeLong >>> λ short.
    (ok_or (open_kind short) fault.TypeReserved >>> λ kind.
    (ok_or (ttl_of pairs) fault.Ttl >>> λ ttl.
    (ok_or (permissions_of pairs) fault.Permissions >>> λ permissions.
    (ok_or (text_of t pairs) fault.Text >>> λ text.
    Ok (record { task = t; index = index; kind = kind; ttl = ttl; permissions = permissions; old = old_of pairs; text = text }))))))))

-- the text may be any: the value is removed, or it is no URL
abbrev pub is_free : Draft → Bool
is_free draft = is_remove draft.task || not (bytes_eq draft.kind (codes "URL"))

-- a URL is one that is followed
abbrev pub IsUrlUsable : Draft → Type 0
IsUrlUsable draft = (is_free draft ≡ true) ⊎ IsFollowed draft.text

abbrev pub is_alias : Draft → Bool
is_alias draft = not (is_remove draft.task) && bytes_eq draft.kind (codes "HS_ALIAS")

-- a handle, as it is and not as readers paste it
abbrev pub IsPlainHandle : List ℕ → Type 0
IsPlainHandle text = IsHandle text × ¬ (IsAddress text)

-- an alias is a handle
abbrev pub IsAliasUsable : Draft → Type 0
IsAliasUsable draft = (is_alias draft ≡ false) ⊎ IsPlainHandle draft.text

abbrev pub IsUsable : Draft → Type 0
IsUsable draft = IsUrlUsable draft × IsAliasUsable draft

-- a URL isn't followed
abbrev pub IsUrlFault : Result Draft DraftFault → DraftFault → Type 0
IsUrlFault told e = (draft : Draft) × (e ≡ fault.Url) × (told ≡ Ok draft) × ¬ (IsUrlUsable draft)

-- an alias is no handle
abbrev pub IsAliasFault : Result Draft DraftFault → DraftFault → Type 0
IsAliasFault told e = (draft : Draft) × (e ≡ fault.Alias) × (told ≡ Ok draft) × ¬ (IsAliasUsable draft)

-- why there is no change: there was no memory, what is wrong, a URL that isn't followed, or an alias that is no handle
abbrev pub IsDraftFault : Result Draft DraftFault → DraftFault → Type 0
IsDraftFault told e = (e ≡ fault.Memory) ⊎ (told ≡ Err e) ⊎ IsUrlFault told e ⊎ IsAliasFault told e
