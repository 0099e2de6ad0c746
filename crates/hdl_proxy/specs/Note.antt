-- What a page says above a handle's values.
use Rattle.std.specs.Prelude.{ℕ, List, [], codes}
use Rattle.hdl_languages.specs.declared.language.Language.{Language}
use Rattle.hdl_languages.specs.declared.phrase.Phrase.{Phrase}
use Rattle.hdl_languages.specs.declared.phrase.Phrase.TheVariants as phrases
use Rattle.hdl_proxy.specs.Phrases.{phrase_part}
use Rattle.hdl_proxy.specs.declared.note.Note.{Note}
use Rattle.hdl_proxy.specs.declared.note.Note.TheVariants.{Nothing, NoUrl, UrlUnfollowed, Unread, Unfollowed}

abbrev pub told_part : Language → Phrase → List ℕ
told_part language told = phrase_part language (codes "<p class=\"note\">") told (codes "</p>\n")

-- why values are shown, in words of this crate
abbrev pub note_part : Language → Note → List ℕ
note_part language Nothing = []
note_part language NoUrl = told_part language phrases.NoUrl
note_part language UrlUnfollowed = told_part language phrases.UrlUnfollowed
note_part language Unread = told_part language phrases.LocationsUnread
note_part language Unfollowed = told_part language phrases.LocationUnfollowed
