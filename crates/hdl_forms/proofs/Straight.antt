-- Orders of changes that make no handle lead to itself.
use Rattle.std.proofs.Common.{◌≡◌, ℕ, List, Result, subst}
use Rattle.std.specs.Prelude.{⊤, IfOk}
use Rattle.std.proofs.lemmas.Result.{IfOk-weaker}
use Rattle.hdl_forms.specs.Taken.{IsCircular, IsStep}
use Rattle.hdl_forms.specs.declared.draft.Draft.{Draft}
use Rattle.hdl_forms.specs.declared.forms.FormStep.{FormStep}
use Rattle.hdl_forms.specs.declared.forms.FormStep.TheVariants as steps

straight_step : (host name : List ℕ) (draft : Draft) → ¬ (IsCircular host name draft) → (step : FormStep) → IsStep (λ _. ⊤) (λ made taken. (made.order.name ≡ name) × (taken.draft ≡ draft)) step
    → IsStep (λ _. ⊤) (λ made form. ¬ (IsCircular host made.order.name form.draft)) step
straight_step host name draft away (steps.Page answer) h = h
straight_step host name draft away (steps.Order made form) (named, same) =
    λ circular. away (subst (λ n. IsCircular host n draft) named (subst (λ d. IsCircular host made.order.name d) same circular))

-- an order of this change of this handle, which doesn't make it lead to itself
pub straight : {E : Type 0} (host name : List ℕ) (draft : Draft) (result : Result FormStep E) → ¬ (IsCircular host name draft) → IfOk result (IsStep (λ _. ⊤) (λ made taken. (made.order.name ≡ name) × (taken.draft ≡ draft)))
    → IfOk result (IsStep (λ _. ⊤) (λ made form. ¬ (IsCircular host made.order.name form.draft)))
straight host name draft result away taken = IfOk-weaker result _ _ (λ step is. straight_step host name draft away step is) taken
