-- Which other handle may be meant by the name of one that isn't there.
use Rattle.std.specs.Prelude.{◌≡◌, ◌⊎◌, ℕ, Bool, eqb, false, List, [], ◌∷◌, ◌++◌, Option, Some, None, if◌then◌else◌, reverse}
use Rattle.std.specs.List.{list_any}
use Rattle.std.specs.Str.{str_to_ascii_lowercase, str_to_ascii_uppercase}
use Rattle.hdl_name.specs.Name.{IsHandle}
use Rattle.hdl_languages.specs.Words.{words}
use Rattle.hdl_languages.specs.declared.language.Language.{Language}
use Rattle.hdl_languages.specs.declared.phrase.Phrase.TheVariants as phrases
use Rattle.hdl_proxy.specs.Alias.{is_among}
use Rattle.hdl_proxy.specs.Answer.{Tells}
use Rattle.hdl_proxy.specs.Pages.{advice_part, meant_part, name_part, refusal_title, top}
use Rattle.hdl_proxy.specs.declared.answer.Answer.{Answer as Reply}
use Rattle.hdl_proxy.specs.declared.answer.CacheControl.TheVariants.{Never}
use Rattle.hdl_proxy.specs.declared.answer.Media.TheVariants as media
use Rattle.hdl_proxy.specs.declared.answer.Status.TheVariants as status
use Rattle.hdl_proxy.specs.declared.codes.TheConstants.{HANDLE_NOT_FOUND}
use Rattle.hdl_proxy.specs.declared.guess.TheConstants.{ADDED}

-- ---- names

-- what people put at the end of a name
abbrev pub is_added : ℕ → Bool
is_added octet = list_any (λ added. eqb added octet) ADDED.now

-- of a name from its end on, what is left without that
abbrev pub without_added : List ℕ → List ℕ
without_added [] = []
without_added (octet ∷ rest) = if is_added octet then without_added rest else octet ∷ rest

abbrev pub bare : List ℕ → List ℕ
bare name = reverse (without_added (reverse name))

-- the names that may be meant by this one: it without that, and the same in small letters, and in capital ones
abbrev pub meant_by : List ℕ → List (List ℕ)
meant_by name = bare name ∷ str_to_ascii_lowercase (bare name) ∷ str_to_ascii_uppercase (bare name) ∷ []

-- a handle that wasn't tried
abbrev pub IsOther : List (List ℕ) → List ℕ → Type 0
IsOther tried name = IsHandle name × (is_among tried name ≡ false)

-- the first of these names that is one, and none just where none is
abbrev pub IsFirstOther : List (List ℕ) → List (List ℕ) → Option (List ℕ) → Type 0
IsFirstOther tried [] guess = guess ≡ None
IsFirstOther tried (name ∷ names) guess = (IsOther tried name × (guess ≡ Some name)) ⊎ (¬ (IsOther tried name) × IsFirstOther tried names guess)

abbrev pub IsGuess : List (List ℕ) → List ℕ → Option (List ℕ) → Type 0
IsGuess tried asked guess = IsFirstOther tried (meant_by asked) guess

-- ---- the page

-- that the handle isn't there, which one may be meant, if one is, and what to do
unfoldable pub missing_page : Language → List ℕ → Option (List ℕ) → List ℕ
missing_page language asked meant =
    top (words language phrases.NotThere) ++ (name_part asked ++ (meant_part language meant ++ advice_part language HANDLE_NOT_FOUND asked))

-- a page that says so, which nobody may keep
pub record IsMissing (language : Language) (asked : List ℕ) (meant : Option (List ℕ)) (answer : Reply) : Type 0 where
  pub told : Tells status.NotFound media.Page answer
  pub kept : answer.cache_control ≡ Never
  pub title : answer.title.items ≡ refusal_title language HANDLE_NOT_FOUND asked
  pub body : answer.body.items ≡ missing_page language asked meant
