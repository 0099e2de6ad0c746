use Rattle.std.proofs.Common.{ℕ, List, Option, IfSome, inr, subst}
use Rattle.std.specs.Global.{Vec}
use Rattle.std.proofs.lemmas.Result.{IfOk-weaker}
use Rattle.hdl_proxy.specs.Answer.{IsWayAmong}
use Rattle.hdl_proxy.specs.Locations.{SaysLocations}
use Rattle.hdl_proxy.specs.declared.locations.Location.{Location}
use Rattle.hdl_proxy.proofs.redirect_choice.redirect_by.Goals as goal

pub returns-in-Some : goal.returns-in-Some
returns-in-Some c =
    let value = c.as_slice.result.now in
    let locatt = c.as_bytes.result.now in
    let items = c.in-Some.locations.items in
    let said = subst (λ (o : Option (Vec Location)). IfSome o (λ locations. SaysLocations locatt value locations.items)) c.in-Some.is c.in_ok-locations.ensures in
    let asked = subst (λ (l : List ℕ). SaysLocations l value items) c.as_bytes.ensures.value said in
    let says = subst (λ (v : List ℕ). SaysLocations c.args.wish.now.locatt.now v items) c.as_slice.ensures asked in
    IfOk-weaker c.redirect_among.result _ _ (λ way among. inr (
      items,
      (
        says,
        subst (λ (l : List Location). IsWayAmong l c.args.values.now c.args.wish.now.append.now way.to way.wrong) c.deref.ensures.value among,
      ),
    ))
    c.redirect_among.ensures
