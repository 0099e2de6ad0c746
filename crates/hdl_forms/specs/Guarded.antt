-- A change of what is there is made only of what the form showed.
use Rattle.std.specs.Prelude.{◌≡◌, ◌⊎◌, Bool, true, false, List, [], ◌∷◌, ℕ, Some, Result, IfOk}
use Rattle.std.specs.Int.{w32, to_be_bytes}
use Rattle.hdl_value.specs.declared.value.Value.{Value}
use Rattle.hdl_msg.specs.Message.{resolution}
use Rattle.hdl_proxy.specs.declared.answer.Answer.{Answer}
use Rattle.hdl_rest.specs.declared.order.Order.{Order}
use Rattle.hdl_rest.specs.Exchange.{Exchange, Asks}
use Rattle.hdl_rest.specs.Orders.{CarriesOrder}
use Rattle.hdl_rest.specs.Present.{Presents}
use Rattle.hdl_rest.specs.Sending.{says_done}
use Rattle.hdl_forms.specs.declared.draft.Draft.{Draft}
use Rattle.hdl_forms.specs.declared.draft.Task.{Task}
use Rattle.hdl_forms.specs.declared.draft.Task.TheVariants as tasks

-- a value is changed or removed that the form showed
abbrev pub is_of_shown : Task → Bool
is_of_shown tasks.Change = true
is_of_shown tasks.Add = false
is_of_shown tasks.Remove = true
is_of_shown tasks.Create = false

-- the value is as the form showed it
pub record IsAsShown (draft : Draft) (value : Value) : Type 0 where
  pub kind : value.kind ≡ draft.kind
  pub text : value.bytes ≡ draft.old
  pub ttl : value.ttl ≡ 0 ∷ to_be_bytes w32 draft.ttl
  pub permissions : value.permissions ≡ draft.permissions

-- no page says that anything was done
abbrev pub SaysUndone : {E : Type 0} → Result Answer E → Type 0
SaysUndone result = IfOk result (λ page. says_done page.status ≡ false)

-- the order is carried out only after a reading that shows the value as the form showed it
abbrev pub CarriesUnchanged : {E : Type 0} → Order → List ℕ → Draft → Result Answer E → List Exchange → Type 0
CarriesUnchanged order body draft result [] = SaysUndone result
CarriesUnchanged order body draft result (x ∷ xs) =
    Asks order.key (resolution order.name (draft.index ∷ []) []) x
    × (((xs ≡ []) × SaysUndone result)
    ⊎ ((value : Value) × Presents order.name draft.index (Some value) x.reply × IsAsShown draft value × CarriesOrder order body result xs))

-- this was asked for a form's order, and the page says that it was done just if all of it was
abbrev pub CarriesForm : {E : Type 0} → Order → List ℕ → Draft → Result Answer E → List Exchange → Type 0
CarriesForm order body draft result xs =
    ((is_of_shown draft.task ≡ true) × CarriesUnchanged order body draft result xs)
    ⊎ ((is_of_shown draft.task ≡ false) × CarriesOrder order body result xs)
