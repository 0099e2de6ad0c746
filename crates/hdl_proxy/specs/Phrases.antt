-- Phrases on a page.
use Rattle.std.specs.Prelude.{ℕ, List, ◌++◌}
use Rattle.hdl_languages.specs.Words.{words}
use Rattle.hdl_languages.specs.declared.language.Language.{Language}
use Rattle.hdl_languages.specs.declared.phrase.Phrase.{Phrase}

-- a phrase between markup
unfoldable pub phrase_part : Language → List ℕ → Phrase → List ℕ → List ℕ
phrase_part language front phrase back = front ++ (words language phrase ++ back)
