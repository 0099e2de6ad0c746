-- Handles by their prefixes.
use Rattle.std.specs.Prelude.{ℕ, Bool, List, [], ◌∷◌, bytes_eq, if◌then◌else◌}
use Rattle.hdl_copied_handles.specs.declared.handles.PrefixHandles.{PrefixHandles}
use Rattle.hdl_copied_handles.specs.declared.listed.ListedHandle.{ListedHandle}

abbrev pub is_of : List ℕ → PrefixHandles → Bool
is_of prefix one = bytes_eq one.prefix.items prefix

-- those of the first that has this prefix, and none where none has it
abbrev pub handles_of : List ℕ → List PrefixHandles → List (List ℕ)
handles_of prefix [] = []
handles_of prefix (one ∷ rest) = if is_of prefix one then one.handles.items else handles_of prefix rest

-- the same, each with the URL to which it leads
abbrev pub listed_in : List ℕ → List PrefixHandles → List ListedHandle
listed_in prefix [] = []
listed_in prefix (one ∷ rest) = if is_of prefix one then one.listed.items else listed_in prefix rest
