-- The forms of answers.
use Rattle.hdl_languages.specs.declared.language.Language.{Language}
use Rattle.hdl_languages.specs.declared.language.Language.TheVariants.{English}
use Rattle.hdl_proxy.specs.declared.question.AnswerFormat.{AnswerFormat}
use Rattle.hdl_proxy.specs.declared.question.AnswerFormat.TheVariants.{Follow, Page, Json, Pretty}

-- the language of what is said: that of a page, and JSON says it in English
abbrev pub language_of : AnswerFormat → Language
language_of (Follow language) = language
language_of (Page language) = language
language_of Json = English
language_of Pretty = English
