-- How a page says through which handles aliases led: the name of each is a link to the page of its own values.
use Rattle.std.specs.Prelude.{ℕ, List, ◌++◌, codes, flat_map}
use Rattle.hdl_proxy.specs.Pages.{advice_part, element, handle_link, name_part, top}
use Rattle.hdl_languages.specs.Words.{words}
use Rattle.hdl_languages.specs.declared.language.Language.{Language}
use Rattle.hdl_languages.specs.declared.phrase.Phrase.{Phrase}
use Rattle.hdl_languages.specs.declared.phrase.Phrase.TheVariants as phrases
use Rattle.hdl_proxy.specs.Phrases.{phrase_part}
use Rattle.hdl_proxy.specs.declared.codes.TheConstants.{TOO_FAR}

-- above a page: which handle was asked for, whose alias led there
unfoldable pub alias_part : Language → List ℕ → List ℕ
alias_part language asked = codes "<p class=\"note\">" ++ (handle_link asked ++ phrase_part language (codes " ") phrases.IsAlias (codes "</p>\n"))

-- the handles that aliases lead through in order, this one the last
unfoldable pub hop_part : List ℕ → List ℕ
hop_part name = codes "<li>" ++ (handle_link name ++ codes "</li>\n")

unfoldable pub hops_part : List (List ℕ) → List ℕ → List ℕ
hops_part names target = codes "<ol>\n" ++ (flat_map hop_part names ++ (hop_part target ++ codes "</ol>\n"))

-- the page that says of a handle that its aliases lead nowhere, by all of them, and what to do
unfoldable pub nowhere_page : Language → List ℕ → Phrase → List (List ℕ) → List ℕ → List ℕ
nowhere_page language handle front names target =
    top (words language phrases.LeadsNowhere)
    ++ (name_part handle ++ (element (codes "<p>") (words language front) (codes "</p>\n") ++ (hops_part names target ++ advice_part language TOO_FAR handle)))
