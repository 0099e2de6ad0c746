use Rattle.std.proofs.Common.{◌≡◌, ◌≢◌, ℕ, List, [], ◌∷◌, ap, ◌∙◌, refl, inl, inr, arith}
use Rattle.hdl_proxy.proofs.xml.cut_in_comment.Goals as goal

pub returns-then-first-ne45 : goal.returns-then-first-ne45
returns-then-first-ne45 c =
    let first = c.in_ok-first.first.now in
    let other : first ≢ 45 = grind arith in
    (first ∷ [], ((first, (other, inl refl)), c.in_ok-first.ensures.cases.0))

pub returns-else-second-eq45 : goal.returns-else-second-eq45
returns-else-second-eq45 c =
    let second = c.in_ok-second.second.now in
    let dash : c.in_ok-first.first.now ≡ 45 = grind arith in
    let other : second ≢ 45 = grind arith in (
      45 ∷ second ∷ [],
      (
        (second, (other, inr refl)),
        c.in_ok-first.ensures.cases.0 ∙ ap (λ (x : ℕ). x ∷ c.in_ok-first.rest.now) dash ∙ ap (λ (x : List ℕ). 45 ∷ x) c.in_ok-second.ensures.cases.0,
      ),
    )
