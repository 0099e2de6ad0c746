use Rattle.std.proofs.Common.{◌≡◌, ℕ, List, [], ◌++◌, Option, IfSome, subst, refl}
use Rattle.std.specs.Borrow.{Bor}
use Rattle.hdl_proxy.specs.declared.xml.Attribute.{Attribute}
use Rattle.hdl_proxy.specs.Xml.{IsAttribute}
use Rattle.hdl_proxy.proofs.Pieces.{one_more}
use Rattle.hdl_proxy.proofs.xml.read_attributes.Goals as goal

pub loop-init : goal.loop-init
loop-init c = rw c.new-attributes.ensures.items ([], tt, refl)

pub loop-preserved : goal.loop-preserved
loop-preserved c =
    let read = subst (λ (o : Option (Attribute × Bor (List ℕ))). IfSome o (λ found. (piece : List ℕ) × (IsAttribute piece found.0 × (c.loop.rest.now ≡ piece ++ found.1.now)))) c.in-Some.is c.in_ok-attribute.ensures in
    rw c.in_ok-push.ensures.items
    (one_more IsAttribute c.args.text.now c.loop.attributes.items c.loop.rest.now read.0 c.in-Some.attribute c.in-Some.behind.now c.loop.invariant read.1.0 read.1.1)

pub returns : goal.returns
returns c =
    let done = c.loop.invariant in
    (done.0, (done.1, done.2))
