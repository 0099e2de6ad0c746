-- A handle of a list, where it leads for anybody, and whether it is gone.
use Rattle.std.specs.Prelude.{ℕ, Bool, true, false, ◌&&◌, if◌then◌else◌, List, [], ◌∷◌}
use Rattle.std.specs.List.{list_any}
use Rattle.hdl_copied_handles.specs.declared.listed.CopiedKind.{CopiedKind}
use Rattle.hdl_copied_handles.specs.declared.listed.CopiedKind.TheVariants as kinds
use Rattle.hdl_copied_handles.specs.declared.listed.CopiedValue.{CopiedValue}
use Rattle.hdl_copied_handles.specs.declared.listed.ListedHandle.{ListedHandle}

abbrev pub is_url : CopiedKind → Bool
is_url kinds.Url = true
is_url kinds.Gone = false

abbrev pub says_gone : CopiedKind → Bool
says_gone kinds.Url = false
says_gone kinds.Gone = true

abbrev pub is_public_url : CopiedValue → Bool
is_public_url value = value.is_public && is_url value.kind

abbrev pub is_public_gone : CopiedValue → Bool
is_public_gone value = value.is_public && says_gone value.kind

-- the first of the URLs that anybody may read, and nothing if there is none
abbrev pub public_url : List CopiedValue → List ℕ
public_url [] = []
public_url (value ∷ values) = if is_public_url value then value.octets else public_url values

-- a value that anybody may read says that the handle is gone
abbrev pub is_gone : List CopiedValue → Bool
is_gone values = list_any is_public_gone values

-- the handle of this name, with the URL to which it leads, and whether it is gone
abbrev pub listed_of : List ℕ → List CopiedValue → ListedHandle
listed_of name values = record { name = name; url = public_url values; is_gone = is_gone values }
