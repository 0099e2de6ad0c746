use Rattle.std.proofs.Common.{◌≡◌, ◌+◌, ◌++◌, ◌∷◌, [], List, Option, take, true, false, sym, subst, ◌∙◌, option_copied}
use Rattle.std.specs.Borrow.{Bor}
use Rattle.hdl_value.specs.declared.value.Value.{Value}
use Rattle.hdl_proxy.specs.CacheControl.{IsSoonest, comes_sooner}
use Rattle.hdl_proxy.proofs.Soonest.{chosen_push, kept_push, more}
use Rattle.hdl_proxy.proofs.cache_control.soonest.Goals as goal
use Rattle.hdl_proxy.proofs.cache_control.soonest.Goals.{then-comes_sooner, else-comes_sooner}

pub loop-value-preserved : goal.loop-value-preserved
loop-value-preserved c =
    let values = c.args.values.now in
    let i = c.loop-value.value-index in
    let v = c.value-item.result in
    let before = option_copied c.loop-value.chosen in
    let grown : take (i + 1) values ≡ take i values ++ v ∷ [] = more values i v c.loop-value-test.true c.value-item.is in
    subst (λ (vs : List Value). IsSoonest vs (option_copied c.if-comes_sooner.chosen)) (sym grown)
    (elim c.if-comes_sooner.branch [
      | then-comes_sooner w ↦
          let sooner : comes_sooner v before ≡ true = sym c.comes_sooner.ensures ∙ w.if-comes_sooner.true in
          subst (λ (o : Option (Bor Value)). IsSoonest (take i values ++ v ∷ []) (option_copied o)) (sym w.chosen-is) (chosen_push (take i values) v before sooner c.loop-value.invariant)
      | else-comes_sooner w ↦
          let later : comes_sooner v before ≡ false = sym c.comes_sooner.ensures ∙ w.if-comes_sooner.false in
          subst (λ (o : Option (Bor Value)). IsSoonest (take i values ++ v ∷ []) (option_copied o)) (sym w.chosen-is) (kept_push (take i values) v before later c.loop-value.invariant)
    ])
