-- What is next for a question that was answered.
use Rattle.std.specs.Prelude.{◌≡◌, ◌≢◌, ◌≤◌, ◌<◌, ◌⊎◌, ℕ, Bool, true, false, ◌==◌, nat_lt, not, ◌&&◌, if◌then◌else◌, List, [], ◌∷◌, ◌++◌, length, Option, Some, None, Result, slice_get, string_bytes, unwrap_or}
use Rattle.std.specs.Borrow.{Bor}
use Rattle.hdl_proxy.specs.Alias.{IsHop, is_among, way_words}
use Rattle.serde_json.specs.Written.{compact_text}
use Rattle.hdl_proxy.specs.Answer.{ShowsFound, Tells, is_json, media_of, title_in}
use Rattle.hdl_languages.specs.Words.{words}
use Rattle.hdl_languages.specs.declared.language.Language.{Language}
use Rattle.hdl_languages.specs.declared.language.Language.TheVariants.{English}
use Rattle.hdl_languages.specs.declared.phrase.Phrase.{Phrase}
use Rattle.hdl_languages.specs.declared.phrase.Phrase.TheVariants as phrases
use Rattle.hdl_proxy.specs.Format.{language_of}
use Rattle.hdl_proxy.specs.Found.{IsFoundOf}
use Rattle.hdl_proxy.specs.Guess.{IsGuess, IsMissing}
use Rattle.hdl_proxy.specs.Hops.{alias_part, nowhere_page}
use Rattle.hdl_proxy.specs.Json.{refusal_json}
use Rattle.hdl_proxy.specs.CacheControl.{sooner}
use Rattle.hdl_proxy.specs.declared.alias.Hop.{Hop}
use Rattle.hdl_proxy.specs.declared.answer.Answer.{Answer as Reply}
use Rattle.hdl_proxy.specs.declared.answer.CacheControl.{CacheControl}
use Rattle.hdl_proxy.specs.declared.answer.CacheControl.TheVariants.{Never}
use Rattle.hdl_proxy.specs.declared.answer.Media.TheVariants as media
use Rattle.hdl_proxy.specs.declared.answer.Status.TheVariants as status
use Rattle.hdl_proxy.specs.declared.found.Found.{Found}
use Rattle.hdl_proxy.specs.declared.found.Found.TheVariants.{Values, Refused, Nothing}
use Rattle.hdl_proxy.specs.declared.proxy.Next.{Next}
use Rattle.hdl_proxy.specs.declared.proxy.Next.TheVariants.{Answer, Ask}
use Rattle.hdl_proxy.specs.declared.question.AnswerFormat.{AnswerFormat}
use Rattle.hdl_proxy.specs.declared.question.AnswerFormat.TheVariants.{Follow, Page, Json, Pretty}
use Rattle.hdl_proxy.specs.declared.question.Question.{Question}
use Rattle.hdl_proxy.specs.declared.resolver.NoAnswer.{NoAnswer}
use Rattle.hdl_proxy.specs.declared.codes.TheConstants.{HANDLE_NOT_FOUND, TOO_FAR, VALUE_NOT_FOUND}

-- ---- no alias is followed

-- the same answer, which others may keep no longer than this
pub record IsWithin (most : CacheControl) (before after : Reply) : Type 0 where
  pub cache_control : after.cache_control ≡ sooner most before.cache_control
  pub status : after.status ≡ before.status
  pub location : after.location ≡ before.location
  pub media : after.media ≡ before.media
  pub tag : after.tag ≡ before.tag
  pub about : after.about ≡ before.about
  pub title : after.title ≡ before.title
  pub body : after.body ≡ before.body

-- the title of a page where the alias of another handle led there
abbrev pub alias_title : Language → List ℕ → List ℕ → List ℕ
alias_title language asked title = asked ++ (words language phrases.AnAlias ++ title)

-- the same page, which says which handle was asked for, by a link to its own values
pub record IsOfAlias (language : Language) (asked : List ℕ) (before after : Reply) : Type 0 where
  pub cache_control : after.cache_control ≡ before.cache_control
  pub status : after.status ≡ before.status
  pub location : after.location ≡ before.location
  pub media : after.media ≡ before.media
  pub tag : after.tag ≡ before.tag
  pub about : after.about ≡ before.about
  pub title : after.title.items ≡ alias_title language asked before.title.items
  pub body : after.body.items ≡ alias_part language asked ++ before.body.items

-- a page says which handle was asked for, where aliases led on from one; all else is as it was
abbrev pub IsNamed : Language → Option (List ℕ) → Reply → Reply → Type 0
IsNamed language None before after = after ≡ before
IsNamed language (Some asked) before after = ((before.media ≡ media.Page) × IsOfAlias language asked before after) ⊎ ((before.media ≢ media.Page) × (after ≡ before))

-- it shows what was found of the question's handle, others may keep it no longer than what the aliases that led here were told with, and a page says
-- which handle was asked for
abbrev pub Ends : Question → Found → Reply → Type 0
Ends question found answer =
    (shown kept : Reply) × (ShowsFound question.form question.name question.append.items (string_bytes question.locatt) found shown
    × IsWithin question.cache_control shown kept × IsNamed (language_of question.form) (slice_get question.passed.items 0) kept answer)

-- ---- an alias is followed

-- the handles that were asked for, the one of this question last
abbrev pub asked_for : Question → List (List ℕ)
asked_for question = question.passed.items ++ question.name ∷ []

abbrev pub first_of : List (List ℕ) → List ℕ
first_of names = unwrap_or (slice_get names 0) []

-- the next question asks for the handle that the alias names, all of its values, in the same form and with the same URL's end
pub record IsNext (question : Question) (hop : Hop) (next : Question) : Type 0 where
  pub name : next.name ≡ hop.target
  pub form : next.form ≡ question.form
  pub indexes : next.indexes.items ≡ []
  pub types : next.types.items ≡ []
  pub append : next.append ≡ question.append
  pub locatt : next.locatt ≡ question.locatt
  pub aliases : next.aliases ≡ question.aliases
  pub passed : next.passed.items ≡ asked_for question
  pub tried : next.tried.items ≡ []
  pub cache_control : next.cache_control ≡ sooner question.cache_control hop.cache_control
  pub anew : next.anew ≡ question.anew

-- that the aliases of these handles lead nowhere, the last of them to this one, told of the first one by all of them: a page has a link to each
abbrev pub nowhere_body : AnswerFormat → Phrase → List (List ℕ) → List ℕ → List ℕ
nowhere_body (Follow language) front asked target = nowhere_page language (first_of asked) front asked target
nowhere_body (Page language) front asked target = nowhere_page language (first_of asked) front asked target
nowhere_body Json front asked target = compact_text (refusal_json (first_of asked) TOO_FAR (way_words (words English front) asked target))
nowhere_body Pretty front asked target = compact_text (refusal_json (first_of asked) TOO_FAR (way_words (words English front) asked target))

-- it isn't there, and nobody may keep that
pub record LeadsNowhere (form : AnswerFormat) (front : Phrase) (asked : List (List ℕ)) (target : List ℕ) (answer : Reply) : Type 0 where
  pub told : Tells status.NotFound (media_of form) answer
  pub kept : answer.cache_control ≡ Never
  pub title : answer.title.items ≡ title_in form TOO_FAR (first_of asked)
  pub body : answer.body.items ≡ nowhere_body form front asked target

abbrev pub Hops : Question → Hop → Next → Type 0
Hops question hop (Ask next) = (is_among (asked_for question) hop.target ≡ false) × (length question.passed.items < 10) × IsNext question hop next
Hops question hop (Answer answer) =
    ((is_among (asked_for question) hop.target ≡ true)
    × LeadsNowhere question.form phrases.InACircle (asked_for question) hop.target answer)
    ⊎ ((is_among (asked_for question) hop.target ≡ false) × (10 ≤ length question.passed.items)
    × LeadsNowhere question.form phrases.BeyondTen (asked_for question) hop.target answer)

-- ---- a handle that isn't there

abbrev pub is_missing : Found → Bool
is_missing (Values values) = false
is_missing (Refused code) = code == HANDLE_NOT_FOUND
is_missing Nothing = false

-- it is there, if only by what isn't public
abbrev pub is_there : Found → Bool
is_there (Values values) = true
is_there (Refused code) = code == VALUE_NOT_FOUND
is_there Nothing = false

-- another name is tried where a page asked for the handle by its name, and fewer than two others were tried
abbrev pub may_try : Question → Found → Bool
may_try question found =
    is_missing found && not (is_json question.form) && (length question.passed.items == 0) && nat_lt (length question.tried.items) 2

-- the handles that aren't there, the one of this question last
abbrev pub tried_for : Question → List (List ℕ)
tried_for question = question.tried.items ++ question.name ∷ []

-- the next question asks for all values of the handle that may be meant, and follows no alias
pub record IsTry (question : Question) (guess : List ℕ) (next : Question) : Type 0 where
  pub name : next.name ≡ guess
  pub form : next.form ≡ Page (language_of question.form)
  pub indexes : next.indexes.items ≡ []
  pub types : next.types.items ≡ []
  pub aliases : next.aliases ≡ false
  pub passed : next.passed.items ≡ []
  pub tried : next.tried.items ≡ tried_for question
  pub anew : next.anew ≡ question.anew

-- the guess is tried, and where there is none the handle that was asked for isn't there
abbrev pub IsTried : Question → Option (List ℕ) → Next → Type 0
IsTried question None (Answer answer) = IsMissing (language_of question.form) (first_of (tried_for question)) None answer
IsTried question None (Ask next) = ⊥
IsTried question (Some guess) (Answer answer) = ⊥
IsTried question (Some guess) (Ask next) = IsTry question guess next

abbrev pub TriesNext : Question → Next → Type 0
TriesNext question next =
    (guess : Option (List ℕ)) × (IsGuess (tried_for question) (first_of (tried_for question)) guess × IsTried question guess next)

-- the handle of a question may be meant where it is there
abbrev pub meant_in : Question → Found → Option (List ℕ)
meant_in question found = if is_there found then Some question.name else None

-- a question that was tried in place of another one says whether its handle is meant, and every other one shows what was found
abbrev pub EndsAt : Option (List ℕ) → Question → Found → Reply → Type 0
EndsAt None question found answer = Ends question found answer
EndsAt (Some asked) question found answer = IsMissing (language_of question.form) asked (meant_in question found) answer

abbrev pub IsEnd : Question → Found → Next → Type 0
IsEnd question found (Answer answer) = EndsAt (slice_get question.tried.items 0) question found answer
IsEnd question found (Ask next) = ⊥

abbrev pub Settles : Question → Found → Next → Type 0
Settles question found next =
    ((may_try question found ≡ true) × TriesNext question next) ⊎ ((may_try question found ≡ false) × IsEnd question found next)

-- ---- what is next

abbrev pub IsAfter : Question → Found → Option Hop → Next → Type 0
IsAfter question found None next = Settles question found next
IsAfter question found (Some hop) next = Hops question hop next

-- by what was found of the handle in what a resolver gave: its alias is followed, where aliases are and it has one, and else it is shown
abbrev pub IsStep : Question → Result (Bor (List ℕ)) NoAnswer → Next → Type 0
IsStep question answered next =
    (found : Found) × (hop : Option Hop) × (IsFoundOf question.name answered found × IsHop question.aliases found hop × IsAfter question found hop next)
