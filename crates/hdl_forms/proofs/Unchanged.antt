-- What a form's order asks for, and what its page says.
use Rattle.std.proofs.Common.{◌≡◌, ◌∙◌, inl, inr, false, ℕ, List, ◌++◌, Option, Some, Result, Ok, Err, refl, sym, ap, subst}
use Rattle.std.specs.Prelude.{IfOk}
use Rattle.hdl_value.specs.declared.value.Value.{Value}
use Rattle.hdl_proxy.specs.declared.answer.Answer.{Answer}
use Rattle.hdl_proxy.specs.declared.answer.Status.{Status}
use Rattle.hdl_proxy.specs.declared.answer.Status.TheVariants.{Success, Created, NoContent, Found, NotModified, BadRequest, Unauthorized, Forbidden, NotFound, MethodNotAllowed, RequestTimeout, Conflict, Gone, ContentTooLarge, BadGateway, Unavailable}
use Rattle.hdl_rest.specs.declared.order.Order.{Order}
use Rattle.hdl_rest.specs.Exchange.{Exchange}
use Rattle.hdl_rest.specs.Orders.{CarriesOrder}
use Rattle.hdl_rest.specs.Present.{TriesValue, said_in}
use Rattle.hdl_rest.specs.Sending.{says_done}
use Rattle.hdl_forms.specs.declared.draft.Draft.{Draft}
use Rattle.hdl_forms.specs.Guarded.{CarriesUnchanged, IsAsShown, SaysUndone}
use Rattle.hdl_forms.specs.Pages.{IsFormPage}
use Rattle.hdl_forms.specs.Taken.{page_status}

same_done : (status : Status) → says_done (page_status status) ≡ says_done status
same_done Success = refl
same_done Created = refl
same_done NoContent = refl
same_done Found = refl
same_done NotModified = refl
same_done BadRequest = refl
same_done Unauthorized = refl
same_done Forbidden = refl
same_done NotFound = refl
same_done MethodNotAllowed = refl
same_done RequestTimeout = refl
same_done Conflict = refl
same_done Gone = refl
same_done ContentTooLarge = refl
same_done BadGateway = refl
same_done Unavailable = refl

-- the page of an answer says what the answer does
pub paged : {E : Type 0} (order : Order) (body : List ℕ) (answer : Answer) (page : Result Answer E) (xs : List Exchange) → IfOk page (IsFormPage (page_status answer.status)) → CarriesOrder {E = E} order body (Ok answer) xs → CarriesOrder order body page xs
paged order body answer (Ok page) xs form (whole, carried, told) = (whole, carried, (λ t. ap says_done form.told.status ∙ same_done answer.status ∙ told t))
paged order body answer (Err e) xs form (whole, carried, told) = (whole, carried, (λ t. tt))

pub refused : {E : Type 0} (answer : Answer) (page : Result Answer E) → says_done answer.status ≡ false → IfOk page (IsFormPage (page_status answer.status)) → SaysUndone page
refused answer (Ok page) undone form = ap says_done form.told.status ∙ same_done answer.status ∙ undone
refused answer (Err e) undone form = tt

pub in_conflict : {E : Type 0} (page : Result Answer E) → IfOk page (IsFormPage Conflict) → SaysUndone page
in_conflict (Ok page) form = ap says_done form.told.status
in_conflict (Err e) form = tt

-- no more is asked than the value
pub stopped : {E : Type 0} (order : Order) (body : List ℕ) (draft : Draft) (said : Option (Option Value)) (result : Result Answer E) (xs : List Exchange) → SaysUndone result → TriesValue order.key order.name draft.index said xs → CarriesUnchanged order body draft result xs
stopped order body draft said result xs undone (inl (none, lacks)) = subst (λ ys. CarriesUnchanged order body draft result ys) (sym none) undone
stopped order body draft said result xs undone (inr (x, is, asks, shows)) = subst (λ ys. CarriesUnchanged order body draft result ys) (sym is) (asks, inl (refl, undone))

-- it is as the form showed it, and the order is carried out
pub went_on : {E : Type 0} (F : Type 0) (order : Order) (body : List ℕ) (draft : Draft) (value : Value) (read : Result (Option Value) Answer) (result : Result Answer E) (xs ys : List Exchange) → read ≡ Ok (Some value) → IsAsShown draft value
    → TriesValue order.key order.name draft.index (said_in {F = F} (Ok read)) xs → CarriesOrder order body result ys → CarriesUnchanged order body draft result (xs ++ ys)
went_on F order body draft value read result xs ys there as_shown tried carried =
    elim (subst (λ r. TriesValue order.key order.name draft.index (said_in {F = F} (Ok r)) xs) there tried) [
      | inl (none, lacks) ↦ absurd (cc)
      | inr (x, is, asks, shows) ↦ subst (λ zs. CarriesUnchanged order body draft result (zs ++ ys)) (sym is) (asks, inr (value, shows, as_shown, carried))
    ]
