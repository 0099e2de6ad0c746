use Rattle.std.proofs.Common.{◌≡◌, true, false, take, subst, arith}
use Rattle.std.specs.List.{list_any}
use Rattle.std.proofs.lemmas.Grind.{common_steps}
use Rattle.std.proofs.lemmas.List.Folds.{list_any_at}
use Rattle.hdl_proxy.proofs.Pairs.{is_named, has_pair_is}
use Rattle.hdl_proxy.proofs.query.has_pair.Goals as goal

pub returns-then-eq : goal.returns-then-eq
returns-then-eq c =
    let named : is_named c.args.name.now c.pair-item.result ≡ true = cc in
    let there = subst (λ x. is_named c.args.name.now x ≡ true) c.pair-item.is named in
    has_pair_is c.args.name.now c.args.pairs.now true (list_any_at (is_named c.args.name.now) c.args.pairs.now _ _ c.loop-pair-test.true there)

pub returns : goal.returns
returns c =
    let whole : take c.loop-pair.pair-index c.args.pairs.now ≡ c.args.pairs.now = grind (arith, common_steps) in
    has_pair_is c.args.name.now c.args.pairs.now false (subst (λ l. list_any (is_named c.args.name.now) l ≡ false) whole c.loop-pair.invariant)
