use Rattle.std.proofs.Common.{◌≡◌, ℕ, List, ◌++◌, Option, IfSome, refl, subst}
use Rattle.std.specs.Prelude.{codes}
use Rattle.std.specs.Borrow.{Bor}
use Rattle.std.specs.Global.{Vec}
use Rattle.hdl_proxy.specs.Locations.{IsLocationOf}
use Rattle.hdl_proxy.specs.declared.locations.Location.{Location}
use Rattle.hdl_proxy.specs.declared.xml.Attribute.{Attribute}
use Rattle.hdl_proxy.specs.Xml.{IsTag}
use Rattle.hdl_proxy.proofs.Pieces.{three_pieces}
use Rattle.hdl_proxy.proofs.locations.read_location.Goals as goal

pub returns-in-Some-2 : goal.returns-in-Some-2
returns-in-Some-2 c =
    let between = c.cut_between.ensures in
    let tag = subst (λ (o : Option (Vec Attribute × Bor (List ℕ))). IfSome o (λ found. (tag : List ℕ) × (IsTag (codes "<location") tag found.0.items × (c.cut_between.result.now ≡ tag ++ found.1.now))))
    c.in-Some.is c.in_ok-attributes.ensures in
    let end = c.in-Some-cut_end.ensures in
    let attributes = c.in-Some.attributes.items in
    let of_value = subst (λ (o : Option Location). IfSome o (IsLocationOf c.args.locatt.now c.deref.result.now)) c.in-Some-2.is c.in_ok-location.ensures in
    let of = subst (λ (l : List Attribute). IsLocationOf c.args.locatt.now l c.in-Some-2.location) c.deref.ensures.value of_value in (
      between.0 ++ (tag.0 ++ end.0),
      (
        (between.0, tag.0, end.0, attributes, (between.1.0, tag.1.0, end.1.0, of, refl)),
        three_pieces c.args.text.now _ _ c.in-Some-cut_end.behind.now between.0 tag.0 end.0 between.1.1 tag.1.1 end.1.1,
      ),
    )
