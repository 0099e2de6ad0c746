-- Links to forms, below pages.
use Rattle.std.specs.Prelude.{◌≡◌, ◌≢◌, ◌⊎◌, ℕ, List, ◌++◌, codes}
use Rattle.hdl_languages.specs.Words.{words}
use Rattle.hdl_languages.specs.declared.language.Language.{Language}
use Rattle.hdl_languages.specs.declared.phrase.Phrase.{Phrase}
use Rattle.hdl_languages.specs.declared.phrase.Phrase.TheVariants as phrases
use Rattle.hdl_proxy.specs.declared.answer.Answer.{Answer}
use Rattle.hdl_proxy.specs.declared.answer.CacheControl.TheVariants.{Never, Seconds}
use Rattle.hdl_proxy.specs.declared.answer.Media.TheVariants.{Page}
use Rattle.hdl_proxy.specs.declared.answer.Status.TheVariants.{Success, Gone}
use Rattle.hdl_forms.specs.declared.form_link.FormLink.{FormLink}
use Rattle.hdl_forms.specs.declared.form_link.FormLink.TheVariants as offers
use Rattle.hdl_forms.specs.declared.form_link.TheConstants.{CHANGE, CHANGE_ANY, CREATE, LIST}

-- a link with this front
unfoldable pub link_markup : Language → List ℕ → Phrase → List ℕ
link_markup language front phrase = front ++ (words language phrase ++ codes "</a></small></p>\n")

abbrev pub form_link_markup : Language → FormLink → List ℕ
form_link_markup language offers.Change = link_markup language CHANGE.now phrases.LinkToChange
form_link_markup language offers.ChangeOrCreate =
    link_markup language CHANGE_ANY.now phrases.LinkToChangeAny ++ link_markup language CREATE.now phrases.LinkToCreate
form_link_markup language offers.ChangeCreateOrList =
    (link_markup language CHANGE_ANY.now phrases.LinkToChangeAny ++ link_markup language CREATE.now phrases.LinkToCreate) ++ link_markup language LIST.now phrases.LinkToList

-- a page that is no error, also that a handle is gone, and that others may keep, as no page of a form is
abbrev pub HasFormLink : Answer → Type 0
HasFormLink answer = (answer.media ≡ Page) × ((answer.status ≡ Success) ⊎ (answer.status ≡ Gone)) × (answer.cache_control ≢ Never)

-- the same answer with the links at its end; who keeps it asks anew each time
pub record Offers (language : Language) (to : FormLink) (before : Answer) (after : Answer) : Type 0 where
  pub status : after.status ≡ before.status
  pub media : after.media ≡ before.media
  pub location : after.location ≡ before.location
  pub cache_control : after.cache_control ≡ Seconds 0
  pub about : after.about ≡ before.about
  pub title : after.title ≡ before.title
  pub body : after.body.items ≡ before.body.items ++ form_link_markup language to

abbrev pub HasLinkTo : Language → FormLink → Answer → Answer → Type 0
HasLinkTo language to before after = (HasFormLink before × Offers language to before after) ⊎ (¬ (HasFormLink before) × (after ≡ before))
