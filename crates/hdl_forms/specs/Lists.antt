-- The list of a prefix's handles: its form, the order by which a server is asked whether a key may list them, and its page.
use Rattle.std.specs.Prelude.{◌≡◌, ◌≤◌, ⊤, ℕ, Bool, true, false, List, [], ◌∷◌, ◌++◌, ◌==◌, length, if◌then◌else◌, flat_map, slice_get, unwrap_or, codes, decimal, Option, Some, None, Result, IfOk}
use Rattle.hdl_value_lines.specs.Fields.{number_in}
use Rattle.hdl_proxy.specs.Link.{path_to}
use Rattle.hdl_proxy.specs.declared.answer.Answer.{Answer}
use Rattle.hdl_proxy.specs.declared.answer.Status.{Status}
use Rattle.hdl_rest.specs.declared.order.ChangeAction.{ChangeAction}
use Rattle.hdl_rest.specs.declared.order.ChangeAction.TheVariants as acts
use Rattle.hdl_rest.specs.declared.order.Order.{Order}
use Rattle.hdl_rest.specs.Exchange.{Exchange}
use Rattle.hdl_rest.specs.ListPermission.{TriesList}
use Rattle.hdl_copied_handles.specs.List.{IsPage}
use Rattle.hdl_copied_handles.specs.Search.{words_of}
use Rattle.hdl_copied_handles.specs.declared.list.ListPage.{ListPage}
use Rattle.hdl_copied_handles.specs.declared.listed.ListedHandle.{ListedHandle}
use Rattle.hdl_copied_handles.specs.declared.search.Search.{Search}
use Rattle.hdl_forms.specs.Change.{IsKeyOf}
use Rattle.hdl_forms.specs.Draft.{Pairs}
use Rattle.hdl_forms.specs.Fields.{prefix_template, with_keys}
use Rattle.hdl_forms.specs.Pages.{IsFormPage}
use Rattle.hdl_forms.specs.Taken.{text_in}
use Rattle.hdl_forms.specs.Template.{filled, markup_of}
use Rattle.hdl_forms.specs.declared.lists.ListRequest.{ListRequest}
use Rattle.hdl_forms.specs.declared.lists.ListStep.{ListStep}
use Rattle.hdl_forms.specs.declared.lists.ListStep.TheVariants as steps
use Rattle.hdl_forms.specs.declared.lists.TheConstants.{WORDS_MOST}
use Rattle.hdl_forms.specs.declared.markup.Template.{Template}
use Rattle.hdl_forms.specs.declared.markup.Template.TheVariants as templates

-- ---- what is asked for

-- the place that a text says in decimal digits, and else the first one
abbrev pub place_in : List ℕ → ℕ
place_in text = unwrap_or (number_in text) 0

-- the request that the fields of a form say; it has neither key nor secret
pub record IsRequest (pairs : Pairs) (request : ListRequest) : Type 0 where
  pub prefix : request.prefix ≡ text_in (codes "list") pairs
  pub name : request.name ≡ text_in (codes "q") pairs
  pub url : request.url ≡ text_in (codes "to") pairs
  pub from : request.from ≡ place_in (text_in (codes "from") pairs)

-- not too many words are looked for
abbrev pub AreFew : ListRequest → Type 0
AreFew request = (length request.name ≤ WORDS_MOST) × (length request.url ≤ WORDS_MOST)

abbrev pub IsListing : ChangeAction → Type 0
IsListing (acts.List window) = ⊤
IsListing other = ⊥

-- the server of the prefix is asked for its handles, with the key and the secret that are typed in the fields
pub record IsListOrder (pairs : Pairs) (order : Order) (request : ListRequest) : Type 0 where
  pub name : order.name ≡ codes "0.NA/" ++ text_in (codes "list") pairs
  pub key : IsKeyOf (text_in (codes "key") pairs) (text_in (codes "secret") pairs) order.key
  pub act : IsListing order.act
  pub asked : IsRequest pairs request
  pub few : AreFew request

-- a page that no one keeps, or such an order
abbrev pub IsListStep : (Order → ListRequest → Type 0) → ListStep → Type 0
IsListStep Orders (steps.Page answer) = (status : Status) × IsFormPage status answer
IsListStep Orders (steps.Order order request) = Orders order request

-- ---- what is shown

-- the form of a request up to its prefix, and what is wrong with it
abbrev pub with_prefix : ListRequest → List ℕ → List ℕ → List ℕ
with_prefix request top at_prefix =
    filled (markup_of templates.ListForm) (request.token ∷ top ∷ []) ++ filled (markup_of (prefix_template at_prefix)) (request.prefix ∷ at_prefix ∷ [])

abbrev pub with_words : List ℕ → ListRequest → List ℕ
with_words page request = page ++ filled (markup_of templates.Words) (request.name ∷ request.url ∷ [])

-- the form with the fields of a request, and what is wrong with them; its fields of key and secret are empty
abbrev pub IsForm : ListRequest → List ℕ → Type 0
IsForm request octets =
    (top at_prefix at_key at_secret : List ℕ)
    × (octets ≡ with_keys (with_words (with_prefix request top at_prefix) request) at_key at_secret)

-- the end of the form: the button that finds, and the one of the next page, if there is one
abbrev pub buttons : Option ℕ → List ℕ
buttons None = filled (markup_of templates.Find) []
buttons (Some next) = filled (markup_of templates.FindOrNext) (decimal next ∷ [])

-- what all pages of lists begin with
abbrev pub list_top : List ℕ
list_top = filled (markup_of templates.List) []

-- a whole form
abbrev pub IsWholeForm : ListRequest → Option ℕ → List ℕ → Type 0
IsWholeForm request next octets = (form : List ℕ) × IsForm request form × (octets ≡ form ++ buttons next)

-- the form of a request, and no handle
abbrev pub HasForm : ListRequest → Answer → Type 0
HasForm request answer = (form : List ℕ) × IsWholeForm request None form × (answer.body.items ≡ list_top ++ form)

abbrev pub name_of : Option ListedHandle → List ℕ
name_of None = []
name_of (Some handle) = handle.name

abbrev pub url_of : Option ListedHandle → List ℕ
url_of None = []
url_of (Some handle) = handle.url

abbrev pub name_at : List ListedHandle → ℕ → List ℕ
name_at handles place = name_of (slice_get handles place)

abbrev pub url_at : List ListedHandle → ℕ → List ℕ
url_at handles place = url_of (slice_get handles place)

abbrev pub is_gone_of : Option ListedHandle → Bool
is_gone_of None = false
is_gone_of (Some handle) = handle.is_gone

abbrev pub is_gone_at : List ListedHandle → ℕ → Bool
is_gone_at handles place = is_gone_of (slice_get handles place)

abbrev pub row_template : List ListedHandle → ℕ → Template
row_template handles place = if is_gone_at handles place then templates.GoneRow else templates.Row

-- the handle at this place, with the address of its page, whether it is gone, and where it leads
abbrev pub row_at : List ListedHandle → ℕ → List ℕ
row_at handles place = filled (markup_of (row_template handles place)) (path_to (name_at handles place) ∷ name_at handles place ∷ url_at handles place ∷ [])

-- what was looked for, and how many handles were found
abbrev pub or_any : List ℕ → List ℕ
or_any words = if length words == 0 then codes "any" else words

abbrev pub found_top : ListRequest → ℕ → List ℕ
found_top request count = filled (markup_of templates.Found) (request.prefix ∷ decimal count ∷ or_any request.name ∷ or_any request.url ∷ [])

-- a page and after it the rows of the handles at these places
abbrev pub with_list : List ℕ → List ListedHandle → List ℕ → List ℕ
with_list page handles places =
    ((page ++ filled (markup_of templates.Rows) []) ++ flat_map (row_at handles) places) ++ filled (markup_of templates.RowsEnd) []

-- the same, or that there are none
abbrev pub with_found : List ℕ → List ListedHandle → List ℕ → List ℕ
with_found page handles [] = page ++ filled (markup_of templates.Nothing) []
with_found page handles (first ∷ places) = with_list page handles (first ∷ places)

-- that the next page may have some stands only if there is one
abbrev pub foot_template : Option ℕ → Template
foot_template None = templates.ListFoot
foot_template (Some next) = templates.ListFootNext

abbrev pub list_end : Option ℕ → List ℕ
list_end next = filled (markup_of (foot_template next)) []

-- the words that a request looks for
pub record Seeks (request : ListRequest) (search : Search) : Type 0 where
  pub name : search.name.items ≡ words_of request.name
  pub url : search.url.items ≡ words_of request.url

-- this part of the list, below what was looked for
abbrev pub found_part : ListRequest → List ListedHandle → ListPage → List ℕ
found_part request handles page = with_found (found_top request (length page.found.items)) handles page.found.items ++ list_end page.next

-- it, and below it the form of a request, with the way to the next page of its list
abbrev pub Shows : ListRequest → List ListedHandle → ListPage → Answer → Type 0
Shows request handles page answer =
    (form : List ℕ) × IsWholeForm request page.next form × (answer.body.items ≡ (list_top ++ found_part request handles page) ++ form)

-- what is shown is what a request looks for, from its place on
abbrev pub IsListOf : ListRequest → List ListedHandle → Answer → Type 0
IsListOf request handles answer = (search : Search) × (page : ListPage) × Seeks request search × IsPage search handles request.from page × Shows request handles page answer

-- the list if it may be shown, and else the form without any of its handles
abbrev pub IsShownIf : Bool → ListRequest → List ListedHandle → Answer → Type 0
IsShownIf true request handles answer = IsListOf request handles answer
IsShownIf false request handles answer = HasForm request answer

-- at most the handles of the order's prefix were asked for, with its key; and the page has the list only if the reply gives them
abbrev pub CarriesList : {E : Type 0} → Order → ListRequest → List ListedHandle → Result Answer E → List Exchange → Type 0
CarriesList order request handles result xs =
    (may : Bool) × TriesList order.key order.name may xs × IfOk result (IsShownIf may request handles)
