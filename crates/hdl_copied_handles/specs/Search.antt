-- What is looked for in a list.
use Rattle.std.specs.Prelude.{ℕ, ◌==◌, Bool, true, false, ◌&&◌, ◌||◌, if◌then◌else◌, List, [], ◌∷◌, ◌++◌}
use Rattle.std.specs.Char.{eq_ignore_ascii_case}
use Rattle.std.specs.List.{list_all}
use Rattle.hdl_copied_handles.specs.declared.listed.ListedHandle.{ListedHandle}
use Rattle.hdl_copied_handles.specs.declared.search.Search.{Search}

-- the text begins with the word, small and capital letters alike
abbrev pub begins : List ℕ → List ℕ → Bool
begins [] text = true
begins (letter ∷ word) [] = false
begins (letter ∷ word) (first ∷ text) = eq_ignore_ascii_case letter first && begins word text

-- the word stands somewhere in the text
abbrev pub occurs : List ℕ → List ℕ → Bool
occurs word [] = begins word []
occurs word (first ∷ text) = begins word (first ∷ text) || occurs word text

-- all of the words stand in the text
abbrev pub has_words : List (List ℕ) → List ℕ → Bool
has_words words text = list_all (λ word. occurs word text) words

-- the handle's name has the words of the one field, and the address to which it leads those of the other
abbrev pub is_found : Search → ListedHandle → Bool
is_found search handle = has_words search.name.items handle.name && has_words search.url.items handle.url

-- the words of a text, which spaces part; of several spaces in a row each parts off an empty word, which stands in every text
abbrev pub words_from : List ℕ → List ℕ → List (List ℕ)
words_from word [] = word ∷ []
words_from word (octet ∷ text) = if octet == 32 then word ∷ words_from [] text else words_from (word ++ octet ∷ []) text

abbrev pub words_of : List ℕ → List (List ℕ)
words_of text = words_from [] text
