-- What may be wrong with a change, though it can be made.
use Rattle.std.specs.Prelude.{ℕ, ◌-◌, ◌==◌, eqb, slice_get, Bool, false, not, ◌&&◌, if◌then◌else◌, List, [], ◌∷◌, ◌++◌, length, codes, Option, Some, None, map}
use Rattle.std.specs.Char.{to_ascii_lowercase}
use Rattle.std.specs.List.{list_any}
use Rattle.std.specs.Str.{bytes_eq}
use Rattle.hdl_value_lines.specs.Fields.{cut_at}
use Rattle.hdl_forms.specs.Template.{filled, markup_of}
use Rattle.hdl_forms.specs.declared.draft.Draft.{Draft}
use Rattle.hdl_forms.specs.declared.draft.Task.{Task}
use Rattle.hdl_forms.specs.declared.draft.Task.TheVariants as tasks
use Rattle.hdl_forms.specs.declared.markup.Template.TheVariants as templates
use Rattle.hdl_forms.specs.declared.warnings.TheConstants.{LOCAL_EMPTY, MARKS, NAME_MARK, NAME_SPACE}

-- nothing follows the first slash
abbrev pub is_end : Option (List ℕ × List ℕ) → Bool
is_end None = false
is_end (Some parts) = length parts.1 == 0

abbrev pub is_local_empty : List ℕ → Bool
is_local_empty name = is_end (cut_at 47 name)

abbrev pub has_space : List ℕ → Bool
has_space name = list_any (λ octet. octet == 32) name

-- it ends in what readers leave out or add
abbrev pub is_mark : Option ℕ → Bool
is_mark None = false
is_mark (Some octet) = list_any (λ mark. eqb mark octet) MARKS.now

abbrev pub ends_in_mark : List ℕ → Bool
ends_in_mark name = is_mark (slice_get name (length name - 1))

-- two types differ, and in small and capital letters alone
abbrev pub is_alike : List ℕ → List ℕ → Bool
is_alike kind known = bytes_eq (map to_ascii_lowercase kind) (map to_ascii_lowercase known)

abbrev pub is_other_case : List ℕ → List ℕ → Bool
is_other_case kind known = not (bytes_eq kind known) && is_alike kind known

-- the type by which the proxy acts that differs so from this one
abbrev pub meant_type : List ℕ → Option (List ℕ)
meant_type kind =
    if is_other_case kind (codes "URL") then Some (codes "URL")
    else if is_other_case kind (codes "EMAIL") then Some (codes "EMAIL")
    else if is_other_case kind (codes "HS_ALIAS") then Some (codes "HS_ALIAS")
    else if is_other_case kind (codes "HS_GONE") then Some (codes "HS_GONE")
    else if is_other_case kind (codes "10320/loc") then Some (codes "10320/loc")
    else None

abbrev pub warning_if : Bool → List ℕ → List ℕ
warning_if applies words = if applies then filled (markup_of templates.Warning) (words ∷ []) else []

-- of a new handle: its local name is empty, it has a space in it, it ends in a mark
abbrev pub name_warnings : List ℕ → List ℕ
name_warnings name =
    (warning_if (is_local_empty name) LOCAL_EMPTY.now ++ warning_if (has_space name) NAME_SPACE.now) ++ warning_if (ends_in_mark name) NAME_MARK.now

abbrev pub warning_of : Option (List ℕ) → List ℕ
warning_of None = []
warning_of (Some meant) = filled (markup_of templates.TypeWarning) (meant ∷ [])

-- of a new value: its type differs from one by which the proxy acts in small and capital letters alone
abbrev pub type_warning : List ℕ → List ℕ
type_warning kind = warning_of (meant_type kind)

abbrev pub warnings_for : Task → List ℕ → List ℕ → List ℕ
warnings_for tasks.Change name kind = []
warnings_for tasks.Add name kind = type_warning kind
warnings_for tasks.Remove name kind = []
warnings_for tasks.Create name kind = name_warnings name

abbrev pub warnings : List ℕ → Draft → List ℕ
warnings name draft = warnings_for draft.task name draft.kind
