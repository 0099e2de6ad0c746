use Rattle.std.proofs.Common.{Option, IfSome, ◌≡◌, ℕ, List, ◌++◌, ap, sym, subst, ◌∙◌, refl, append_assoc}
use Rattle.std.specs.Borrow.{Bor}
use Rattle.std.specs.Global.{Vec}
use Rattle.hdl_proxy.specs.Xml.{IsNamed, IsQuoted}
use Rattle.hdl_proxy.proofs.xml.read_attribute.Goals as goal

pub returns-in_ok-name-in-Some-2 : goal.returns-in_ok-name-in-Some-2
returns-in_ok-name-in-Some-2 c =
    let named = c.in-Some.ensures in
    let quoted = subst (λ (o : Option (Vec ℕ × Bor (List ℕ))). IfSome o (λ found. (piece : List ℕ) × (IsQuoted piece found.0.items × (c.in-Some.rest.now ≡ piece ++ found.1.now)))) c.in-Some-2.is c.in_ok-text.ensures in (
      named.0 ++ quoted.0,
      (
        (named.0, quoted.0, (subst (λ (n : List ℕ). IsNamed named.0 n) (sym c.in_ok-name-in-Some-2.ensures.items) named.1.0, quoted.1.0, refl)),
        named.1.1 ∙ ap (λ (x : List ℕ). named.0 ++ x) quoted.1.1 ∙ sym (append_assoc named.0 quoted.0 c.in-Some-2.behind.now),
      ),
    )
