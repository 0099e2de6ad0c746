use Rattle.std.proofs.Common.{◌≡◌, ◌+◌, ◌++◌, ◌∷◌, [], List, Option, take, true, false, sym, subst, ◌∙◌, option_copied}
use Rattle.std.specs.Borrow.{Bor}
use Rattle.hdl_value.specs.declared.value.Value.{Value}
use Rattle.hdl_proxy.specs.Choice.{IsFirstOf, is_chosen}
use Rattle.hdl_proxy.proofs.Soonest.{more}
use Rattle.hdl_proxy.proofs.Firsts.{chosen_push, kept_push}
use Rattle.hdl_proxy.proofs.choice.first_of.Goals as goal
use Rattle.hdl_proxy.proofs.choice.first_of.Goals.{then-is_chosen, else-is_chosen}

pub loop-value-preserved : goal.loop-value-preserved
loop-value-preserved c =
    let kind = c.args.kind.now in
    let values = c.args.values.now in
    let i = c.loop-value.value-index in
    let v = c.value-item.result in
    let before = option_copied c.loop-value.chosen in
    let grown : take (i + 1) values ≡ take i values ++ v ∷ [] = more values i v c.loop-value-test.true c.value-item.is in
    subst (λ (vs : List Value). IsFirstOf kind vs (option_copied c.if-is_chosen.chosen)) (sym grown)
    (elim c.if-is_chosen.branch [
      | then-is_chosen w ↦
          let chosen : is_chosen kind v before ≡ true = sym c.is_chosen.ensures ∙ w.if-is_chosen.true in
          subst (λ (o : Option (Bor Value)). IsFirstOf kind (take i values ++ v ∷ []) (option_copied o)) (sym w.chosen-is) (chosen_push kind (take i values) v before chosen c.loop-value.invariant)
      | else-is_chosen w ↦
          let stays : is_chosen kind v before ≡ false = sym c.is_chosen.ensures ∙ w.if-is_chosen.false in
          subst (λ (o : Option (Bor Value)). IsFirstOf kind (take i values ++ v ∷ []) (option_copied o)) (sym w.chosen-is) (kept_push kind (take i values) v before stays c.loop-value.invariant)
    ])
