use Rattle.std.proofs.Common.{◌≡◌, ℕ, List, ◌++◌, Option, IfSome, refl, subst}
use Rattle.std.specs.Prelude.{codes}
use Rattle.std.specs.Borrow.{Bor}
use Rattle.std.specs.List.{concat}
use Rattle.hdl_proxy.specs.declared.locations.Location.{Location}
use Rattle.hdl_proxy.specs.Locations.{IsLocation}
use Rattle.hdl_proxy.proofs.Pieces.{one_more, three_pieces}
use Rattle.hdl_proxy.proofs.locations.read_each.Goals as goal

pub returns-in-Some : goal.returns-in-Some
returns-in-Some c =
    let done = c.loop.invariant in
    let between = c.cut_between.ensures in (
      concat done.0 ++ (between.0 ++ codes "</locations>"),
      (
        (done.0, between.0, (done.1, between.1.0, refl)),
        three_pieces c.args.text.now _ _ c.in-Some.behind.now (concat done.0) between.0 (codes "</locations>") done.2 between.1.1 c.in-Some.ensures.found,
      ),
    )

pub loop-preserved : goal.loop-preserved
loop-preserved c =
    let R = IsLocation c.args.locatt.now in
    let read = subst (λ (o : Option (Location × Bor (List ℕ))). IfSome o (λ found. (piece : List ℕ) × (R piece found.0 × (c.loop.rest.now ≡ piece ++ found.1.now)))) c.in-Some-2.is c.in_ok-location.ensures in
    rw c.in_ok-push.ensures.items
    (one_more R c.args.text.now c.loop.locations.items c.loop.rest.now read.0 c.in-Some-2.location c.in-Some-2.behind.now c.loop.invariant read.1.0 read.1.1)
