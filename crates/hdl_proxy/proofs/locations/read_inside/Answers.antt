use Rattle.std.proofs.Common.{◌≡◌, ℕ, List, ◌++◌, Option, IfSome, ap, sym, ◌∙◌, refl, subst, inl, inr, append_assoc}
use Rattle.std.specs.Prelude.{codes}
use Rattle.std.specs.Borrow.{Bor}
use Rattle.std.specs.Global.{Vec}
use Rattle.hdl_proxy.specs.declared.locations.Location.{Location}
use Rattle.hdl_proxy.specs.Locations.{AreLocations}
use Rattle.hdl_proxy.proofs.locations.read_inside.Goals as goal

pub returns-in-Some : goal.returns-in-Some
returns-in-Some c = (codes "/>", (inl (refl, c.new.ensures.items), c.in-Some.ensures.found))

pub returns : goal.returns
returns c =
    let each = subst (λ (o : Option (Vec Location × Bor (List ℕ))). IfSome o (λ found. (inside : List ℕ) × (AreLocations c.args.locatt.now inside found.0.items × (c.in-Some-after.rest.now ≡ inside ++ found.1.now))))
    c.in-Some-2.is c.in_ok-locations.ensures in (
      codes ">" ++ each.0,
      (
        inr (each.0, (each.1.0, refl)),
        c.in-Some-after.ensures.found ∙ ap (λ (x : List ℕ). codes ">" ++ x) each.1.1 ∙ sym (append_assoc (codes ">") each.0 c.in-Some-2.behind.now),
      ),
    )
