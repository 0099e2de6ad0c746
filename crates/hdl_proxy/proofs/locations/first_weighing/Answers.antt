use Rattle.std.proofs.Common.{◌≡◌, List, take, subst, arith}
use Rattle.std.proofs.lemmas.Grind.{common_steps}
use Rattle.std.proofs.lemmas.List.Elements.{All-more}
use Rattle.hdl_proxy.specs.Locations.{IsNoneChosen, weight_for}
use Rattle.hdl_proxy.specs.declared.locations.Location.{Location}
use Rattle.hdl_proxy.proofs.locations.first_weighing.Goals as goal

pub loop-location-preserved : goal.loop-location-preserved
loop-location-preserved c =
    let wanted = c.args.wanted in
    let one = c.location-item.result in
    let nothing : weight_for wanted one ≡ 0 = omega arith in
    All-more (λ x. weight_for wanted x ≡ 0) c.args.locations.now c.loop-location.location-index one c.loop-location-test.true c.loop-location.invariant
    (subst (λ (x : Location). weight_for wanted x ≡ 0) c.location-item.is nothing)

pub returns : goal.returns
returns c =
    let whole : take c.loop-location.location-index c.args.locations.now ≡ c.args.locations.now = grind (arith, common_steps) in
    subst (λ (locations : List Location). IsNoneChosen locations c.args.wanted) whole c.loop-location.invariant
