use Rattle.std.proofs.Common.{Option, IfSome, subst, ◌≡◌, ◌⊎◌, ℕ, List, [], ◌∷◌, ◌++◌, ap, sym, ◌∙◌, refl, append_assoc, arith}
use Rattle.std.specs.Global.{Vec}
use Rattle.hdl_proxy.specs.Xml.{Says}
use Rattle.hdl_proxy.proofs.xml.read_quoted.Goals as goal

pub returns-in-Some-2 : goal.returns-in-Some-2
returns-in-Some-2 c =
    let quote = c.in-Some.quote.now in
    let inside = c.in-Some-cut_at.inside.now in
    let behind = c.in-Some-cut_at.behind.now in
    let kind : (quote ≡ 34) ⊎ (quote ≡ 39) = grind arith in
    let said = subst (λ (o : Option (Vec ℕ)). IfSome o (λ text. Says inside text.items)) c.in-Some-2.is c.in_ok-text.ensures in (
      quote ∷ (inside ++ quote ∷ []),
      (
        (quote, inside, (kind, c.in-Some-cut_at.ensures.0, said, refl)),
        c.in-Some.ensures.cases.0 ∙ ap (λ (x : List ℕ). quote ∷ x) (c.in-Some-cut_at.ensures.1 ∙ sym (append_assoc inside (quote ∷ []) behind)),
      ),
    )
