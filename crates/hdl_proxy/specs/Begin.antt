-- What is done for a request.
use Rattle.std.specs.Prelude.{◌≡◌, ◌≢◌, ◌⊎◌, ⊤, ◌==◌, ◌&&◌, ℕ, Bool, true, false, not, List, [], ◌∷◌, ◌++◌, All, Option, Some, None, codes, map, string_bytes, if◌then◌else◌}
use Rattle.std.specs.Str.{is_utf8}
use Rattle.percent_encoding.specs.Percent.{percent_decode}
use Rattle.hdl_name.specs.Fault.{IsFaultOf}
use Rattle.hdl_name.specs.Name.{IsHandle}
use Rattle.hdl_name.specs.declared.fault.NameFault.{NameFault}
use Rattle.hdl_name.specs.declared.fault.NameFault.TheVariants.{TooLong, NotUtf8, NoSlash, BadSegment, Memory}
use Rattle.hdl_languages.specs.Words.{words}
use Rattle.hdl_languages.specs.declared.language.Language.{Language}
use Rattle.hdl_languages.specs.declared.phrase.Phrase.{Phrase}
use Rattle.hdl_languages.specs.declared.phrase.Phrase.TheVariants as phrases
use Rattle.hdl_proxy.specs.Answer.{LeadsTo, Refuses, Tells, IsLocated, is_json}
use Rattle.hdl_proxy.specs.Format.{language_of}
use Rattle.hdl_proxy.specs.Link.{path_to}
use Rattle.hdl_proxy.specs.Pasted.{IsPastedName, IsWritten, between_spaces}
use Rattle.hdl_proxy.specs.Query.{IsAppended, IsIndex, IsLast, IsLocatt, has_pair, index_of, values_named}
use Rattle.hdl_proxy.specs.declared.answer.Answer.{Answer as Reply}
use Rattle.hdl_proxy.specs.declared.answer.CacheControl.{CacheControl}
use Rattle.hdl_proxy.specs.declared.answer.CacheControl.TheVariants.{Never, Seconds}
use Rattle.hdl_proxy.specs.declared.answer.Media.{Media}
use Rattle.hdl_proxy.specs.declared.answer.Media.TheVariants as media
use Rattle.hdl_proxy.specs.declared.answer.Status.TheVariants as status
use Rattle.hdl_proxy.specs.declared.files.TheConstants.{ICON, ROBOTS}
use Rattle.hdl_proxy.specs.declared.proxy.Next.{Next}
use Rattle.hdl_proxy.specs.declared.proxy.Next.TheVariants.{Answer, Ask}
use Rattle.hdl_proxy.specs.declared.question.AnswerFormat.{AnswerFormat}
use Rattle.hdl_proxy.specs.declared.question.AnswerFormat.TheVariants.{Follow, Page, Json, Pretty}
use Rattle.hdl_proxy.specs.declared.question.Question.{Question}
use Rattle.hdl_proxy.specs.declared.codes.TheConstants.{INVALID_HANDLE, OPERATION_DENIED}

-- it is answered at once, so
abbrev pub IsAnswered : (Reply → Type 0) → Next → Type 0
IsAnswered so (Answer answer) = so answer
IsAnswered so (Ask question) = ⊥

-- where it is answered at once, a Location stands just with status Found, and is graphic ASCII
abbrev pub IsLocatedIfAnswered : Next → Type 0
IsLocatedIfAnswered (Answer answer) = IsLocated answer
IsLocatedIfAnswered (Ask question) = ⊤

-- a method by which a handle is asked for
abbrev pub IsReading : List ℕ → Type 0
IsReading method = (method ≡ codes "GET") ⊎ (method ≡ codes "HEAD")

-- ---- refusals

-- that a name is none, and why, by its fault
abbrev pub fault_sentence : NameFault → Phrase
fault_sentence TooLong = phrases.NameTooLong
fault_sentence NotUtf8 = phrases.NameNotUtf8
fault_sentence NoSlash = phrases.NameWithoutSlash
fault_sentence BadSegment = phrases.NameOfBadSegment
fault_sentence Memory = phrases.NameWithoutMemory

-- the sentence of the first fault that this name has
abbrev pub IsFaultSentence : Language → List ℕ → List ℕ → Type 0
IsFaultSentence language name why = (fault : NameFault) × (IsFaultOf name fault × (why ≡ words language (fault_sentence fault)))

-- this name, which is none, is refused in this form
abbrev pub RefusesName : AnswerFormat → List ℕ → Reply → Type 0
RefusesName form name answer = (why : List ℕ) × (IsFaultSentence (language_of form) name why × Refuses status.BadRequest form name INVALID_HANDLE why answer)

-- what is told of the name that the path means: its octets where they are text, and else the path, as it was sent
abbrev pub asked_text : List ℕ → List ℕ → List ℕ
asked_text name sent = if is_utf8 name then name else sent

-- a request for this name, which was sent so, is refused for this reason
abbrev pub RefusesRequest : AnswerFormat → List ℕ → List ℕ → List ℕ → Reply → Type 0
RefusesRequest form name sent why answer = Refuses status.BadRequest form (asked_text name sent) INVALID_HANDLE why answer

-- ---- the front page

-- the way to its own address, which nobody may keep, and where it is no name a page that says so
abbrev pub LeadsToName : Language → List ℕ → Reply → Type 0
LeadsToName language name answer =
    (IsHandle name × LeadsTo name (path_to name) answer × (answer.cache_control ≡ Never))
    ⊎ (¬ (IsHandle name) × RefusesName (Page language) name answer)

-- the way to the name that was pasted at a site with this address
abbrev pub LeadsFromPasted : Language → Option (List ℕ) → List ℕ → Reply → Type 0
LeadsFromPasted language own sent answer = (name : List ℕ) × (IsPastedName own sent name × LeadsToName language name answer)

-- without a handle a page, and with one the way to it
abbrev pub LeadsFrom : Language → Option (List ℕ) → Option (List ℕ) → Reply → Type 0
LeadsFrom language own None answer = Tells status.Success media.Page answer
LeadsFrom language own (Some sent) answer = LeadsFromPasted language own sent answer

-- the handle is that of the last pair `handle`
abbrev pub IsFront : Language → Option (List ℕ) → List (List ℕ × List ℕ) → Next → Type 0
IsFront language own pairs next =
    (last : Option (List ℕ)) × (IsLast (values_named (codes "handle") pairs) last × IsAnswered (LeadsFrom language own last) next)

-- ---- which addresses there are

-- the path stands under this one
abbrev pub IsUnder : List ℕ → List ℕ → Type 0
IsUnder front path = (rest : List ℕ) × (path ≡ front ++ rest)

-- where all is told in JSON, where handles are listed, and the front of a path that asks for the values of a handle
abbrev pub api_path : List ℕ
api_path = codes "/api/"

abbrev pub list_path : List ℕ
list_path = codes "/api/handles"

abbrev pub json_path : List ℕ
json_path = codes "/api/handles/"

abbrev pub robots_path : List ℕ
robots_path = codes "/robots.txt"

abbrev pub icon_path : List ℕ
icon_path = codes "/favicon.ico"

abbrev pub IsFile : List ℕ → Type 0
IsFile path = (path ≡ robots_path) ⊎ (path ≡ icon_path)

-- neither the front page nor a file
abbrev pub IsOwn : List ℕ → Type 0
IsOwn path = (path ≢ codes "/") × (path ≢ robots_path) × (path ≢ icon_path)

-- an address of a handle: it asks for its values as JSON, or isn't under `/api/` at all
abbrev pub IsOfHandle : List ℕ → Type 0
IsOfHandle path = IsUnder json_path path ⊎ ¬ (IsUnder api_path path)

-- ---- what is answered at once

-- a file of this kind, whose octets are these, which others may keep for a day
pub record IsFileOf (form : Media) (text : List ℕ) (answer : Reply) : Type 0 where
  pub told : Tells status.Success form answer
  pub kept : answer.cache_control ≡ Seconds 86_400
  pub body : answer.body.items ≡ text

-- the text for crawlers
abbrev pub IsRobots : Reply → Type 0
IsRobots answer = IsFileOf media.Text ROBOTS.now answer

abbrev pub IsIcon : Reply → Type 0
IsIcon answer = IsFileOf media.Icon ICON.now answer

-- nothing but the fields of the answer, which nobody may keep
pub record IsBare (answer : Reply) : Type 0 where
  pub told : Tells status.NoContent media.Json answer
  pub kept : answer.cache_control ≡ Never
  pub body : answer.body.items ≡ []

-- the text for crawlers, or the icon
abbrev pub IsOfFile : List ℕ → Reply → Type 0
IsOfFile path answer =
    ((path ≡ robots_path) × IsRobots answer)
    ⊎ ((path ≡ icon_path) × IsIcon answer)

-- no list is given, and nothing else is there, in JSON
abbrev pub IsNoHandle : List ℕ → Reply → Type 0
IsNoHandle path answer =
    ((path ≡ list_path) × Refuses status.Forbidden Json path OPERATION_DENIED (codes "This proxy lists no handles, since it accepts no keys.") answer)
    ⊎ ((path ≢ list_path) × Refuses status.NotFound Json path OPERATION_DENIED (codes "There is nothing at this address. A handle is at /api/handles/HANDLE.") answer)

-- that method is refused in this form
abbrev pub RefusesMethodIn : AnswerFormat → List ℕ → Reply → Type 0
RefusesMethodIn form path answer = Refuses status.MethodNotAllowed form path OPERATION_DENIED (words (language_of form) phrases.OtherMethod) answer

-- another method is refused, by a page or under `/api/` in JSON; OPTIONS is answered there
abbrev pub RefusesMethod : Language → List ℕ → List ℕ → Reply → Type 0
RefusesMethod language method path answer =
    (¬ (IsUnder api_path path) × RefusesMethodIn (Page language) path answer)
    ⊎ (IsUnder api_path path × (method ≡ codes "OPTIONS") × IsBare answer)
    ⊎ (IsUnder api_path path × (method ≢ codes "OPTIONS") × RefusesMethodIn Json path answer)

-- ---- the address of a handle

-- a path without the slash that it begins with
abbrev pub without_slash : List ℕ → List ℕ
without_slash [] = []
without_slash (octet ∷ rest) = if octet == 47 then rest else octet ∷ rest

-- a page where the query has `noredirect`, and else the way
abbrev pub page_form : Language → List (List ℕ × List ℕ) → AnswerFormat
page_form language pairs = if has_pair (codes "noredirect") pairs then Page language else Follow language

-- JSON over many lines where the query has `pretty`, and else without a space
abbrev pub json_form : List (List ℕ × List ℕ) → AnswerFormat
json_form pairs = if has_pair (codes "pretty") pairs then Pretty else Json

-- JSON is asked for as a call of a function
abbrev pub is_called_back : AnswerFormat → List (List ℕ × List ℕ) → Bool
is_called_back form pairs = is_json form && has_pair (codes "callback") pairs

-- the name that a program asks for: what the rest of the path stands for, its escapes read once
abbrev pub IsExact : List ℕ → List ℕ → List ℕ → Type 0
IsExact path sent name = (path ≡ json_path ++ sent) × (name ≡ percent_decode sent)

-- the name that a reader asks for: what the text in the path stands for, its escapes read once, without the spaces at its ends
abbrev pub IsMeant : List ℕ → List ℕ → List ℕ → Type 0
IsMeant path sent name =
    (sent ≡ without_slash path) × ((text : List ℕ) × (IsWritten sent text × (name ≡ between_spaces (percent_decode text))))

-- the form that an address asks for, the part of its path that was sent for a name, and the name: JSON where the path begins so, and else a page or the way
abbrev pub IsAddress : Language → List ℕ → List (List ℕ × List ℕ) → AnswerFormat → List ℕ → List ℕ → Type 0
IsAddress language path pairs form sent name =
    ((form ≡ json_form pairs) × IsExact path sent name)
    ⊎ ((form ≡ page_form language pairs) × ¬ (IsUnder api_path path) × IsMeant path sent name)

-- aliases are followed where a URL is, unless the query has `ignore_aliases`
abbrev pub is_way : AnswerFormat → Bool
is_way (Follow language) = true
is_way (Page language) = false
is_way Json = false
is_way Pretty = false

abbrev pub follows_aliases : AnswerFormat → List (List ℕ × List ℕ) → Bool
follows_aliases form pairs = is_way form && not (has_pair (codes "ignore_aliases") pairs)

-- others may keep what is answered for a day at most, and where the query has `auth` not without asking again
abbrev pub first_cache_control : List (List ℕ × List ℕ) → CacheControl
first_cache_control pairs = if has_pair (codes "auth") pairs then Seconds 0 else Seconds 86_400

-- what is asked of this name: the indexes and types of all pairs `index` and `type`, what is appended, whether a server is asked whatever is kept, and whether aliases
-- are followed, of which none was yet
pub record IsAsked (asked : List ℕ) (wanted : AnswerFormat) (pairs : List (List ℕ × List ℕ)) (question : Question) : Type 0 where
  pub name : question.name ≡ asked
  pub form : question.form ≡ wanted
  pub good : All IsIndex (values_named (codes "index") pairs)
  pub indexes : question.indexes.items ≡ map index_of (values_named (codes "index") pairs)
  pub types : question.types.items ≡ values_named (codes "type") pairs
  pub append : IsAppended pairs question.append.items
  pub locatt : IsLocatt pairs (string_bytes question.locatt)
  pub aliases : question.aliases ≡ follows_aliases wanted pairs
  pub passed : question.passed.items ≡ []
  pub tried : question.tried.items ≡ []
  pub cache_control : question.cache_control ≡ first_cache_control pairs
  pub anew : question.anew ≡ has_pair (codes "auth") pairs
  pub no_call : is_called_back wanted pairs ≡ false

-- why a request for this name is refused: a call is asked for, an index is none, or the name is none
abbrev pub IsReason : List ℕ → AnswerFormat → List (List ℕ × List ℕ) → List ℕ → Type 0
IsReason name form pairs why =
    ((is_called_back form pairs ≡ true) × (why ≡ codes "callback is refused: pages of any site may read this JSON without it."))
    ⊎ (¬ (All IsIndex (values_named (codes "index") pairs)) × (why ≡ words (language_of form) phrases.BadIndex))
    ⊎ (¬ (IsHandle name) × IsFaultSentence (language_of form) name why)

-- the name that was sent so is asked for, or where there is a reason the request is refused
abbrev pub AsksFor : List ℕ → List ℕ → AnswerFormat → List (List ℕ × List ℕ) → Next → Type 0
AsksFor sent name form pairs (Ask question) = IsAsked name form pairs question
AsksFor sent name form pairs (Answer answer) = (why : List ℕ) × (IsReason name form pairs why × RefusesRequest form name sent why answer)

-- it asks in this form for this name
abbrev pub AsksAddress : Language → List ℕ → List (List ℕ × List ℕ) → Next → Type 0
AsksAddress language path pairs next =
    (form : AnswerFormat) × (sent : List ℕ) × (name : List ℕ) × (IsAddress language path pairs form sent name × AsksFor sent name form pairs next)
