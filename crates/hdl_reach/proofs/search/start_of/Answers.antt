use Rattle.std.proofs.Common.{◌≡◌, ◌∙◌, take, length, arith, ap, sym, subst}
use Rattle.hdl_value.specs.Refs.{place_of}
use Rattle.hdl_reach.specs.Search.{IsFound}
use Rattle.hdl_reach.specs.Views.{grants_in}
use Rattle.hdl_reach.proofs.Masks.{granted_next}
use Rattle.hdl_reach.proofs.Searches.{take_whole}
use Rattle.hdl_reach.proofs.Steps.{found_grant}
use Rattle.hdl_reach.proofs.search.start_of.Goals as goal

pub loop-grant-preserved : goal.loop-grant-preserved
loop-grant-preserved c = λ t.
    let passed = grants_in (take c.loop-grant.grant-index c.args.grants.now) in
    let grant = c.grant-item.result in
    let before = c.loop-grant.invariant t in
    subst (λ gs. IsFound t gs c.raise.new.self) (sym (granted_next c.args.grants.now c.loop-grant.grant-index grant c.loop-grant-test.true c.grant-item.is))
    (found_grant t passed c.loop-grant.found c.raise.new.self grant.mask.0 (place_of grant.reference) before c.in_ok-raise.ensures.known (c.in_ok-raise.ensures.waiting before.waiting))

pub returns : goal.returns
returns c = λ t.
    let all : c.loop-grant.grant-index ≡ length c.args.grants.now = omega arith in
    subst (λ gs. IsFound t (grants_in gs) c.loop-grant.found) (ap (λ n. take n c.args.grants.now) all ∙ take_whole c.args.grants.now) (c.loop-grant.invariant t)
