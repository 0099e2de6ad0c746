-- What is answered.
use Rattle.std.specs.Prelude.{◌≡◌, ◌≢◌, ◌⊎◌, ◌++◌, ℕ, Bool, true, false, List, [], All, Option, Some, None, MatchOption, Result, codes, option_map, string_bytes}
use Rattle.std.specs.Borrow.{Bor}
use Rattle.hdl_value.specs.declared.value.Value.{Value}
use Rattle.serde_json.specs.Written.{compact_text}
use Rattle.hdl_languages.specs.Words.{words}
use Rattle.hdl_languages.specs.declared.language.Language.{Language}
use Rattle.hdl_languages.specs.declared.phrase.Phrase.TheVariants as phrases
use Rattle.hdl_proxy.specs.Choice.{IsFirstOf, IsFirstUrl}
use Rattle.hdl_proxy.specs.Format.{language_of}
use Rattle.hdl_proxy.specs.Found.{IsFoundOf}
use Rattle.hdl_proxy.specs.Json.{refusal_json, IsJsonOf, IsPrettyOf}
use Rattle.hdl_proxy.specs.CacheControl.{IsCacheControlOf}
use Rattle.hdl_proxy.specs.Link.{IsWayTo, name_in_address}
use Rattle.hdl_proxy.specs.Locations.{IsChoice, SaysLocations}
use Rattle.hdl_proxy.specs.Pages.{refusal_page, refusal_title, redirect_page, IsGonePage, IsPageOf}
use Rattle.hdl_proxy.specs.Status.{status_of_code, reported_code, refused_words}
use Rattle.hdl_proxy.specs.Url.{IsGraphic, extend}
use Rattle.hdl_proxy.specs.declared.answer.Answer.{Answer}
use Rattle.hdl_proxy.specs.declared.answer.CacheControl.TheVariants.{Never}
use Rattle.hdl_proxy.specs.declared.answer.Media.{Media}
use Rattle.hdl_proxy.specs.declared.answer.Media.TheVariants as media
use Rattle.hdl_proxy.specs.declared.answer.Status.{Status}
use Rattle.hdl_proxy.specs.declared.answer.Status.TheVariants as status
use Rattle.hdl_proxy.specs.declared.found.Found.{Found}
use Rattle.hdl_proxy.specs.declared.found.Found.TheVariants.{Values, Refused, Nothing}
use Rattle.hdl_proxy.specs.declared.locations.Location.{Location}
use Rattle.hdl_proxy.specs.declared.note.Note.{Note}
use Rattle.hdl_proxy.specs.declared.note.Note.TheVariants as note
use Rattle.hdl_proxy.specs.declared.question.AnswerFormat.{AnswerFormat}
use Rattle.hdl_proxy.specs.declared.question.AnswerFormat.TheVariants.{Follow, Page, Json, Pretty}
use Rattle.hdl_proxy.specs.declared.question.Question.{Question}
use Rattle.hdl_proxy.specs.declared.resolver.NoAnswer.{NoAnswer}

-- It leads there: a page under this title, with a link there, status Found and this Location.
pub record LeadsTo (title to : List ℕ) (answer : Answer) : Type 0 where
  pub status : answer.status ≡ status.Found
  pub media : answer.media ≡ media.Redirect
  pub location : option_map string_bytes answer.location ≡ Some to
  pub body : answer.body.items ≡ redirect_page title to

-- It leads nowhere: a page or JSON with this status.
pub record Tells (told : Status) (form : Media) (answer : Answer) : Type 0 where
  pub status : answer.status ≡ told
  pub media : answer.media ≡ form
  pub location : answer.location ≡ None

-- a Location stands just with status Found, and is graphic ASCII
abbrev pub IsLocated : Answer → Type 0
IsLocated answer =
    MatchOption answer.location (answer.status ≢ status.Found)
    (λ to. (answer.status ≡ status.Found) × All IsGraphic (string_bytes to))

-- ---- where values lead

-- the way to the URL that is meant, where one is
abbrev pub IsWayToMeant : Option (List ℕ) → Option (List ℕ) → Type 0
IsWayToMeant None way = way ≡ None
IsWayToMeant (Some url) way = IsWayTo url way

-- what is wrong where this is the way: nothing where there is one
abbrev pub note_of : Note → Option (List ℕ) → Note
note_of wrong None = wrong
note_of wrong (Some to) = note.Nothing

-- the way to the URL of this value with this behind it, where there is one, and else what is wrong
abbrev pub IsWayOfValue : Option Value → List ℕ → Option (List ℕ) → Note → Type 0
IsWayOfValue None append way wrong = (way ≡ None) × (wrong ≡ note.NoUrl)
IsWayOfValue (Some value) append way wrong = IsWayToMeant (extend value.bytes append) way × (wrong ≡ note_of note.UrlUnfollowed way)

-- the way to the first URL of these values with this behind it: its address where it is one to be followed, and none otherwise
abbrev pub IsWayOf : List Value → List ℕ → Option (List ℕ) → Note → Type 0
IsWayOf values append way wrong = (first : Option Value) × (IsFirstUrl values first × IsWayOfValue first append way wrong)

-- the way to the location that was chosen with this behind it, and where none was to the first URL; and what is wrong
abbrev pub IsWayAt : Option (Bor Location) → List Value → List ℕ → Option (List ℕ) → Note → Type 0
IsWayAt None values append way wrong = IsWayOf values append way wrong
IsWayAt (Some chosen) values append way wrong = IsWayToMeant (extend chosen.now.href.items append) way × (wrong ≡ note_of note.Unfollowed way)

abbrev pub IsWayAmong : List Location → List Value → List ℕ → Option (List ℕ) → Note → Type 0
IsWayAmong locations values append way wrong =
    (chosen : Option (Bor Location)) × (IsChoice locations chosen × IsWayAt chosen values append way wrong)

-- none, since locations can't be read
abbrev pub IsUnread : Option (List ℕ) → Note → Type 0
IsUnread way wrong = (way ≡ None) × (wrong ≡ note.Unread)

-- where a handle's own address leads, and what is wrong: among the locations that it says, where it has some, and else to its first URL
abbrev pub IsWayBy : Option Value → List Value → List ℕ → List ℕ → Option (List ℕ) → Note → Type 0
IsWayBy None values append locatt way wrong = IsWayOf values append way wrong
IsWayBy (Some place) values append locatt way wrong =
    IsUnread way wrong ⊎ ((locations : List Location) × (SaysLocations locatt place.bytes locations × IsWayAmong locations values append way wrong))

abbrev pub IsWayFrom : List Value → List ℕ → List ℕ → Option (List ℕ) → Note → Type 0
IsWayFrom values append locatt way wrong =
    (place : Option Value) × (IsFirstOf (codes "10320/loc") values place × IsWayBy place values append locatt way wrong)

-- ---- what is answered to a question

-- JSON where it was asked for, and else a page
abbrev pub media_of : AnswerFormat → Media
media_of (Follow language) = media.Page
media_of (Page language) = media.Page
media_of Json = media.Json
media_of Pretty = media.Json

abbrev pub is_json : AnswerFormat → Bool
is_json (Follow language) = false
is_json (Page language) = false
is_json Json = true
is_json Pretty = true

-- A page, or JSON without a space or over many lines, of this handle and these values, and of nothing else; a page says what is wrong too. Others may
-- keep it as long as each of these values.
pub record IsPage (language : Language) (handle : List ℕ) (wrong : Note) (values : List Value) (answer : Answer) : Type 0 where
  pub told : Tells status.Success media.Page answer
  pub kept : IsCacheControlOf values answer.cache_control
  pub about : option_map string_bytes answer.about ≡ Some (name_in_address handle)
  pub title : answer.title.items ≡ handle
  pub body : IsPageOf language handle wrong values answer.body.items

pub record IsJson (handle : List ℕ) (values : List Value) (answer : Answer) : Type 0 where
  pub told : Tells status.Success media.Json answer
  pub kept : IsCacheControlOf values answer.cache_control
  pub body : IsJsonOf handle values answer.body.items

pub record IsPretty (handle : List ℕ) (values : List Value) (answer : Answer) : Type 0 where
  pub told : Tells status.Success media.Json answer
  pub kept : IsCacheControlOf values answer.cache_control
  pub body : IsPrettyOf handle values answer.body.items

-- It leads there, and others may keep that as long as each of these values.
pub record LeadsBy (handle : List ℕ) (values : List Value) (to : List ℕ) (answer : Answer) : Type 0 where
  pub leads : LeadsTo handle to answer
  pub kept : IsCacheControlOf values answer.cache_control

-- it goes this way, and where there is none it is a page of the values that says what is wrong
abbrev pub Goes : Language → List ℕ → List Value → Option (List ℕ) → Note → Answer → Type 0
Goes language handle values None wrong answer = IsPage language handle wrong values answer
Goes language handle values (Some to) wrong answer = LeadsBy handle values to answer

-- A page that says when the handle went, and why, and of these values nothing else. Others may keep it as long as each of these values.
pub record IsGone (language : Language) (handle : List ℕ) (gone : Value) (values : List Value) (answer : Answer) : Type 0 where
  pub told : Tells status.Gone media.Page answer
  pub kept : IsCacheControlOf values answer.cache_control
  pub about : option_map string_bytes answer.about ≡ Some (name_in_address handle)
  pub title : answer.title.items ≡ words language phrases.GoneTitle ++ handle
  pub body : IsGonePage language handle gone answer.body.items

-- the way from these values, with this behind their URL or to the location with this attribute, where there is one, and else all of them
abbrev pub Follows : Language → List ℕ → List ℕ → List ℕ → List Value → Answer → Type 0
Follows language handle append locatt values answer =
    (way : Option (List ℕ)) × (wrong : Note) × (IsWayFrom values append locatt way wrong × Goes language handle values way wrong answer)

-- the same, unless a value says that the handle is gone
abbrev pub FollowsUnless : Option Value → Language → List ℕ → List ℕ → List ℕ → List Value → Answer → Type 0
FollowsUnless None language handle append locatt values answer = Follows language handle append locatt values answer
FollowsUnless (Some gone) language handle append locatt values answer = IsGone language handle gone values answer

-- in this form these values: where they are to be followed, that they are gone where one says so, and else where they lead
abbrev pub ShowsValues : AnswerFormat → List ℕ → List ℕ → List ℕ → List Value → Answer → Type 0
ShowsValues (Follow language) handle append locatt values answer =
    (gone : Option Value) × (IsFirstOf (codes "HS_GONE") values gone × FollowsUnless gone language handle append locatt values answer)
ShowsValues (Page language) handle append locatt values answer = IsPage language handle note.Nothing values answer
ShowsValues Json handle append locatt values answer = IsJson handle values answer
ShowsValues Pretty handle append locatt values answer = IsPretty handle values answer

-- the page, or the JSON, that says why there are no values
abbrev pub refusal_body : AnswerFormat → List ℕ → ℕ → List ℕ → List ℕ
refusal_body (Follow language) handle code why = refusal_page language handle code why
refusal_body (Page language) handle code why = refusal_page language handle code why
refusal_body Json handle code why = compact_text (refusal_json handle code why)
refusal_body Pretty handle code why = compact_text (refusal_json handle code why)

-- the title of a page that refuses; JSON has none
abbrev pub title_in : AnswerFormat → ℕ → List ℕ → List ℕ
title_in (Follow language) code handle = refusal_title language code handle
title_in (Page language) code handle = refusal_title language code handle
title_in Json code handle = []
title_in Pretty code handle = []

-- in this form, with this status, that there are no values, by code and reason; nobody may keep that
pub record Refuses (given : Status) (form : AnswerFormat) (handle : List ℕ) (code : ℕ) (why : List ℕ) (answer : Answer) : Type 0 where
  pub told : Tells given (media_of form) answer
  pub kept : answer.cache_control ≡ Never
  pub title : answer.title.items ≡ title_in form code handle
  pub body : answer.body.items ≡ refusal_body form handle code why

-- in this form what was found: values, or the status of a code, or that no server answered
abbrev pub ShowsFound : AnswerFormat → List ℕ → List ℕ → List ℕ → Found → Answer → Type 0
ShowsFound form handle append locatt (Values values) answer = ShowsValues form handle append locatt values.items answer
ShowsFound form handle append locatt (Refused code) answer = Refuses (status_of_code code) form handle (reported_code code) (words (language_of form) (refused_words code)) answer
ShowsFound form handle append locatt Nothing answer = Refuses status.BadGateway form handle 2 (words (language_of form) phrases.NoServerAnswered) answer

-- it answers the question by what was found of its handle in what a resolver gave, and by nothing else
abbrev pub Answers : Question → Result (Bor (List ℕ)) NoAnswer → Answer → Type 0
Answers question answered answer =
    (found : Found) × (IsFoundOf question.name answered found × ShowsFound question.form question.name question.append.items (string_bytes question.locatt) found answer)
