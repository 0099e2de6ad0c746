-- What all pages of a site have: its head, and its foot with whom to ask. Its name and its contact are text. And for how long browsers keep its redirects.
use Rattle.std.specs.Prelude.{◌≡◌, ◌≢◌, ◌⊎◌, ℕ, ◌==◌, ◌||◌, if◌then◌else◌, Bool, true, false, is_some, List, [], ◌++◌, codes, Option, Some, None, option_map, string_bytes}
use Rattle.hdl_languages.specs.declared.language.Language.{Language}
use Rattle.hdl_languages.specs.declared.phrase.Phrase.TheVariants as phrases
use Rattle.hdl_proxy.specs.Escape.{escaped}
use Rattle.hdl_proxy.specs.Link.{IsWayTo}
use Rattle.hdl_proxy.specs.Pages.{element}
use Rattle.hdl_proxy.specs.Phrases.{phrase_part}
use Rattle.hdl_proxy.specs.Status.{status_number}
use Rattle.hdl_proxy.specs.Step.{IsWithin}
use Rattle.hdl_proxy.specs.Url.{IsFollowed, IsSiteAddress}
use Rattle.hdl_proxy.specs.declared.answer.Answer.{Answer}
use Rattle.hdl_proxy.specs.declared.answer.CacheControl.{CacheControl}
use Rattle.hdl_proxy.specs.declared.answer.CacheControl.TheVariants.{Never, Seconds}
use Rattle.hdl_proxy.specs.declared.answer.Media.TheVariants as media
use Rattle.hdl_proxy.specs.declared.answer.Status.TheVariants.{Gone}
use Rattle.hdl_proxy.specs.declared.site.Contact.{Contact}
use Rattle.hdl_proxy.specs.declared.site.Site.{Site}
use Rattle.hdl_proxy.specs.declared.site.TheConstants.{HEAD, STYLE, MAIN}

-- ---- whom to ask

-- the way to who is asked: to the URL that this is, where it is followed, and else by mail
abbrev pub IsContactWay : List ℕ → Option (List ℕ) → Type 0
IsContactWay said way = (IsFollowed said × IsWayTo said way) ⊎ (¬ (IsFollowed said) × IsWayTo (codes "mailto:" ++ said) way)

-- who is asked by what was said, under just these words: nobody where there is no way
abbrev pub IsContactOf : List ℕ → Option Contact → Type 0
IsContactOf said None = IsContactWay said None
IsContactOf said (Some contact) = IsContactWay said (Some contact.to) × (string_bytes contact.text ≡ said)

-- nobody where nothing was said
abbrev pub IsContactIn : Option (List ℕ) → Option Contact → Type 0
IsContactIn None contact = contact ≡ None
IsContactIn (Some said) contact = IsContactOf said contact

-- ---- a site

-- the address that was said, and none just where that isn't the address of a site
abbrev pub IsAddressOf : List ℕ → Option (List ℕ) → Type 0
IsAddressOf said None = ¬ (IsSiteAddress said)
IsAddressOf said (Some address) = IsSiteAddress said × (address ≡ said)

abbrev pub IsAddressIn : Option (List ℕ) → Option (List ℕ) → Type 0
IsAddressIn None address = address ≡ None
IsAddressIn (Some said) address = IsAddressOf said address

-- a site with this name, the contact and the address of what was said, and this many seconds for redirects
pub record IsSiteOf (called : List ℕ) (said : Option (List ℕ)) (at : Option (List ℕ)) (seconds : ℕ) (site : Site) : Type 0 where
  pub name : string_bytes site.name ≡ called
  pub contact : IsContactIn said site.contact
  pub address : IsAddressIn at (option_map string_bytes site.address)
  pub redirects : site.redirects ≡ seconds

-- ---- its pages

-- the address of a name, where the site and the name are there
abbrev pub whole_address : Option (List ℕ) → Option (List ℕ) → Option (List ℕ)
whole_address None name = None
whole_address (Some address) None = None
whole_address (Some address) (Some name) = Some (address ++ name)

-- where a page is cited, and what a link to it says (Open Graph)
unfoldable pub address_part : List ℕ → List ℕ → List ℕ → List ℕ
address_part title name address =
    element (codes "<link rel=\"canonical\" href=\"") address (codes "\">\n") ++ (element (codes "<meta property=\"og:url\" content=\"") address (codes "\">\n")
    ++ (element (codes "<meta property=\"og:title\" content=\"") title (codes "\">\n") ++ element (codes "<meta property=\"og:site_name\" content=\"") name (codes "\">\n")))

abbrev pub about_part : List ℕ → List ℕ → Option (List ℕ) → List ℕ
about_part title name None = []
about_part title name (Some address) = address_part title name address

-- the page up to its main part: its language, its title and the site's name, its address, and the name once more as its head
unfoldable pub front_part : Language → List ℕ → List ℕ → Option (List ℕ) → List ℕ
front_part language title name address =
    phrase_part language (codes "<!DOCTYPE html>\n<html lang=\"") phrases.LanguageTag HEAD.now ++ (escaped title ++ (element (codes " - ") name (codes "</title>\n") ++ (about_part title name address ++ (STYLE.now ++ (escaped name ++ MAIN.now)))))

-- a link to who is asked
unfoldable pub contact_part : Language → Contact → List ℕ
contact_part language contact =
    phrase_part language (codes "<footer>") phrases.Questions (codes " <a href=\"") ++ (escaped contact.to ++ element (codes "\"><bdi>") (string_bytes contact.text) (codes "</bdi></a></footer>\n"))

abbrev pub foot : Language → Option Contact → List ℕ
foot language None = []
foot language (Some contact) = contact_part language contact

-- the page of this main part, at this address
abbrev pub page_of : Site → Language → List ℕ → Option (List ℕ) → List ℕ → List ℕ
page_of site language title address main =
    front_part language title (string_bytes site.name) address ++ (main ++ (codes "</main>\n" ++ (foot language site.contact ++ codes "</body>\n</html>\n")))

-- it is dressed as a page: the same answer, with its whole page and its whole address
pub record Dresses (site : Site) (language : Language) (before after : Answer) : Type 0 where
  pub status : after.status ≡ before.status
  pub location : after.location ≡ before.location
  pub media : after.media ≡ media.Page
  pub cache_control : after.cache_control ≡ before.cache_control
  pub tag : after.tag ≡ before.tag
  pub title : after.title ≡ before.title
  pub about : option_map string_bytes after.about ≡ whole_address (option_map string_bytes site.address) (option_map string_bytes before.about)
  pub body : after.body.items ≡ page_of site language before.title.items (option_map string_bytes after.about) before.body.items

-- a page is dressed, and all else stays
abbrev pub IsDressed : Site → Language → Answer → Answer → Type 0
IsDressed site language before after =
    ((before.media ≢ media.Page) × (after ≡ before))
    ⊎ ((before.media ≡ media.Page) × Dresses site language before after)

-- ---- redirects

-- others keep a redirect for at most this many seconds, and for none not at all
abbrev pub redirect_cache_control : ℕ → CacheControl
redirect_cache_control seconds = if seconds == 0 then Never else Seconds seconds

-- a redirect, or that a handle is gone
abbrev pub is_bound : Answer → Bool
is_bound answer = is_some answer.location || status_number answer.status == status_number Gone

-- such an answer is kept no longer than the site says, and all else stays
abbrev pub IsBound : Site → Answer → Answer → Type 0
IsBound site before after =
    ((is_bound before ≡ false) × (after ≡ before))
    ⊎ ((is_bound before ≡ true) × IsWithin (redirect_cache_control site.redirects) before after)
