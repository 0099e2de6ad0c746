-- The page from which the form of an existing handle is opened.
use Rattle.std.specs.Prelude.{◌≡◌, ◌≢◌, ◌⊎◌, ℕ, Bool, false, List, [], ◌∷◌, ◌++◌, Option, Some, None, codes}
use Rattle.std.specs.Str.{trim}
use Rattle.percent_encoding.specs.Percent.{percent_decode}
use Rattle.hdl_name.specs.Fault.{IsFaultOf}
use Rattle.hdl_name.specs.Name.{IsHandle}
use Rattle.hdl_name.specs.declared.fault.NameFault.{NameFault}
use Rattle.hdl_name.specs.declared.fault.NameFault.TheVariants.{TooLong, NotUtf8, NoSlash, BadSegment, Memory}
use Rattle.hdl_proxy.specs.Answer.{LeadsTo}
use Rattle.hdl_proxy.specs.Link.{path_to_form}
use Rattle.hdl_proxy.specs.Pasted.{IsPastedName, between_spaces}
use Rattle.hdl_proxy.specs.Query.{IsLast, values_named}
use Rattle.hdl_proxy.specs.declared.answer.Answer.{Answer}
use Rattle.hdl_proxy.specs.declared.answer.CacheControl.TheVariants.{Never}
use Rattle.hdl_proxy.specs.declared.answer.Status.{Status}
use Rattle.hdl_proxy.specs.declared.answer.Status.TheVariants as statuses
use Rattle.hdl_forms.specs.Address.{path_at}
use Rattle.hdl_forms.specs.Draft.{Pairs}
use Rattle.hdl_forms.specs.Fields.{field_template}
use Rattle.hdl_forms.specs.Pages.{IsFormPage}
use Rattle.hdl_forms.specs.Template.{filled, markup_of}
use Rattle.hdl_forms.specs.declared.fault.TheConstants.{NAME_NOT_UTF8, NAME_OF_OTHER_FORM, NAME_TOO_LONG}
use Rattle.hdl_forms.specs.declared.markup.Template.TheVariants as templates

-- ---- what is asked for

-- what the last pair `edit` of the front page's query has
abbrev pub IsTypedAt : List ℕ → Pairs → Option (List ℕ) → Type 0
IsTypedAt path pairs None = (path ≢ codes "/") ⊎ (values_named (codes "edit") pairs ≡ [])
IsTypedAt path pairs (Some typed) = (path ≡ codes "/") × IsLast (values_named (codes "edit") pairs) (Some typed)

-- ---- what is shown

-- what is said of a name that is no handle, by its fault
abbrev pub words_of_name : NameFault → List ℕ
words_of_name TooLong = NAME_TOO_LONG.now
words_of_name NotUtf8 = NAME_NOT_UTF8.now
words_of_name NoSlash = NAME_OF_OTHER_FORM.now
words_of_name BadSegment = NAME_OF_OTHER_FORM.now
words_of_name Memory = NAME_OF_OTHER_FORM.now

-- the texts of its field `edit`, in which this stands, and beside it what is wrong with it
abbrev pub open_texts : List ℕ → List ℕ → List (List ℕ)
open_texts typed fault =
    codes "edit" ∷ codes "The handle, as you found it" ∷ [] ∷ codes "edit" ∷ codes "edit" ∷ typed ∷ codes "10/a" ∷ codes "text" ∷ codes "edit" ∷ codes "edit" ∷ fault ∷ []

-- the form with that field
abbrev pub open_form : List ℕ → List ℕ → List ℕ
open_form typed fault =
    (filled (markup_of templates.Open) [] ++ filled (markup_of (field_template fault)) (open_texts typed fault)) ++ filled (markup_of templates.OpenButton) []

-- the page with that form and nothing else
pub record IsOpenPage (status : Status) (typed fault : List ℕ) (answer : Answer) : Type 0 where
  pub page : IsFormPage status answer
  pub body : answer.body.items ≡ open_form typed fault

-- ---- what is answered

-- the way to the form of the handle with this name, which no one keeps
pub record LeadsToForm (name : List ℕ) (answer : Answer) : Type 0 where
  pub handle : IsHandle name
  pub leads : LeadsTo name (path_to_form name) answer
  pub kept : answer.cache_control ≡ Never

-- the page says why this name is no handle, and still has what was typed
abbrev pub SaysWhy : List ℕ → List ℕ → Answer → Type 0
SaysWhy typed name answer =
    ¬ (IsHandle name) × ((fault : NameFault) × (IsFaultOf name fault × IsOpenPage statuses.BadRequest typed (words_of_name fault) answer))

-- the name in what was typed: of an address at this host in its path, and else as it is pasted
abbrev pub IsNameIn : List ℕ → Option (List ℕ) → List ℕ → Type 0
IsNameIn typed None name = IsPastedName None typed name
IsNameIn typed (Some path) name = name ≡ between_spaces (percent_decode path)

abbrev pub IsTypedName : List ℕ → List ℕ → List ℕ → Type 0
IsTypedName host typed name = IsNameIn typed (path_at host (trim typed)) name

-- it is that of a handle, whose form is opened, or else it is said why not
abbrev pub OpensTyped : List ℕ → List ℕ → Answer → Type 0
OpensTyped host typed answer = (name : List ℕ) × (IsTypedName host typed name × (LeadsToForm name answer ⊎ SaysWhy typed name answer))

-- the empty page where nothing but spaces was typed at the site of this host
abbrev pub IsOpened : List ℕ → List ℕ → Answer → Type 0
IsOpened host typed answer =
    ((trim typed ≡ []) × IsOpenPage statuses.Success [] [] answer) ⊎ ((trim typed ≢ []) × OpensTyped host typed answer)
