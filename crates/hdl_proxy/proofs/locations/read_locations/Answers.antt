use Rattle.std.proofs.Common.{◌≡◌, ℕ, List, [], ◌++◌, Option, IfSome, ap, ◌∙◌, subst, append-nil, arith}
use Rattle.std.specs.Prelude.{codes}
use Rattle.std.specs.Borrow.{Bor}
use Rattle.std.specs.Global.{Vec}
use Rattle.std.proofs.lemmas.Grind.{common_steps}
use Rattle.hdl_proxy.specs.declared.xml.Attribute.{Attribute}
use Rattle.hdl_proxy.specs.declared.locations.Location.{Location}
use Rattle.hdl_proxy.specs.Locations.{IsInside}
use Rattle.hdl_proxy.specs.Xml.{IsTag}
use Rattle.hdl_proxy.proofs.locations.read_locations.Goals as goal

pub returns-then-is_empty : goal.returns-then-is_empty
returns-then-is_empty c =
    let before = c.cut_blank.result.0.now in
    let after = c.cut_blank-2.result.0.now in
    let nothing : c.cut_blank-2.result.1.now ≡ [] = grind (arith, common_steps) in
    let tag = subst (λ (o : Option (Vec Attribute × Bor (List ℕ))). IfSome o (λ found. (tag : List ℕ) × (IsTag (codes "<locations") tag found.0.items × (c.cut_blank.result.1.now ≡ tag ++ found.1.now))))
    c.in-Some.is c.in_ok-_attributes.ensures in
    let inside = subst (λ (o : Option (Vec Location × Bor (List ℕ))). IfSome o (λ found. (inside : List ℕ) × (IsInside c.args.locatt.now inside found.0.items × (c.in-Some.rest.now ≡ inside ++ found.1.now))))
    c.in-Some-2.is c.in_ok-locations.ensures in
    let last = c.cut_blank-2.ensures.1 ∙ ap (λ (x : List ℕ). after ++ x) nothing ∙ append-nil after in (
      before,
      tag.0,
      inside.0,
      after,
      c.in-Some._attributes.items,
      (
        c.cut_blank.ensures.0,
        tag.1.0,
        inside.1.0,
        c.cut_blank-2.ensures.0,
        c.cut_blank.ensures.1 ∙ ap (λ (x : List ℕ). before ++ x) (tag.1.1 ∙ ap (λ (x : List ℕ). tag.0 ++ x) (inside.1.1 ∙ ap (λ (x : List ℕ). inside.0 ++ x) last)),
      ),
    )
