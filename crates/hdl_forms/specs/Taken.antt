-- What a form that came is taken for.
use Rattle.std.specs.Prelude.{◌≡◌, ⊤, ℕ, false, if◌then◌else◌, List, [], codes, unwrap_or, Ok}
use Rattle.std.specs.Str.{is_utf8, trim}
use Rattle.hdl_proxy.specs.Query.{pairs_of}
use Rattle.hdl_proxy.specs.declared.answer.Answer.{Answer}
use Rattle.hdl_proxy.specs.declared.answer.Status.{Status}
use Rattle.hdl_proxy.specs.declared.answer.Status.TheVariants as statuses
use Rattle.hdl_forms.specs.Address.{IsAddress, LeadsBack}
use Rattle.hdl_forms.specs.Change.{IsActOf, IsBodyOf, IsKeyOf}
use Rattle.hdl_forms.specs.Confirm.{HasWarnings}
use Rattle.hdl_forms.specs.Draft.{Pairs, draft_in, first_named, is_free}
use Rattle.hdl_forms.specs.Pages.{IsFormPage}
use Rattle.hdl_forms.specs.declared.change.FormOrder.{FormOrder}
use Rattle.hdl_forms.specs.declared.draft.Draft.{Draft}
use Rattle.hdl_forms.specs.declared.forms.FormPlace.{FormPlace}
use Rattle.hdl_forms.specs.declared.forms.FormPlace.TheVariants as places
use Rattle.hdl_forms.specs.declared.forms.FormStep.{FormStep}
use Rattle.hdl_forms.specs.declared.forms.FormStep.TheVariants as steps
use Rattle.hdl_forms.specs.declared.pages.FilledForm.{FilledForm}

-- the fields of a body: none if it isn't text
abbrev pub fields_of : List ℕ → Pairs
fields_of body = if is_utf8 body then pairs_of body else []

-- what the first field of this name has: nothing if there is none
abbrev pub text_in : List ℕ → Pairs → List ℕ
text_in name pairs = unwrap_or (first_named name pairs) []

-- what the tokens of a form are for: its handle, and nothing if that is new
abbrev pub subject_of : FormPlace → List ℕ
subject_of (places.Edit name) = name
subject_of places.New = []

-- the handle that a form is about: its own, or the one that is named in it, without the spaces at its ends
abbrev pub about : FormPlace → Pairs → List ℕ
about (places.Edit name) pairs = name
about places.New pairs = trim (text_in (codes "handle") pairs)

-- a new handle's name isn't so
abbrev pub IsPlain : FormPlace → List ℕ → Type 0
IsPlain (places.Edit own) name = ⊤
IsPlain places.New name = ¬ (IsAddress name)

abbrev pub IsNamed : FormPlace → Pairs → List ℕ → Type 0
IsNamed place pairs name = (name ≡ about place pairs) × IsPlain place name

-- a URL is put into this handle that is its own address at this host
abbrev pub IsCircular : List ℕ → List ℕ → Draft → Type 0
IsCircular host name draft = (is_free draft ≡ false) × LeadsBack host name draft.text

-- the form has the change that the fields say, and this is its order by the key that is typed in them
pub record IsOrderOf (name : List ℕ) (pairs : Pairs) (made : FormOrder) (form : FilledForm) : Type 0 where
  pub handle : made.order.name ≡ name
  pub key : IsKeyOf (text_in (codes "key") pairs) (text_in (codes "secret") pairs) made.order.key
  pub said : draft_in pairs ≡ Ok form.draft
  pub act : IsActOf form.draft made.order.act
  pub body : IsBodyOf name form.draft made.order.key.index made.order.key.handle made.body.items

-- a page that asks for the key of the change that the fields say has all that may be wrong with it
abbrev pub IsWarned : List ℕ → Pairs → Answer → Type 0
IsWarned name pairs answer = answer.status ≡ statuses.Success → (draft : Draft) × (draft_in pairs ≡ Ok draft) × HasWarnings name draft answer

-- such a page with forms, which no one keeps, or such an order
abbrev pub IsStep : (Answer → Type 0) → (FormOrder → FilledForm → Type 0) → FormStep → Type 0
IsStep Pages Orders (steps.Page answer) = ((status : Status) × IsFormPage status answer) × Pages answer
IsStep Pages Orders (steps.Order made form) = Orders made form

-- a browser would ask for a password by itself at 401
abbrev pub page_status : Status → Status
page_status statuses.Unauthorized = statuses.Forbidden
page_status other = other
