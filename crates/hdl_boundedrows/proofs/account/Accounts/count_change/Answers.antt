use Rattle.std.proofs.Common.{arith, ap, get_or, set, ◌∙◌}
use Rattle.std.proofs.lemmas.List.Edits.{map_over_more}
use Rattle.hdl_boundedrows.specs.Bounded.{after_change}
use Rattle.hdl_boundedrows.proofs.account.Accounts.count_change.Goals as goal

pub loop-account-preserved : goal.loop-account-preserved
loop-account-preserved c =
    ap (set c.loop-account.account-items c.loop-account.account-index) c.take.ensures
    ∙ map_over_more (after_change c.args.prefix.now c.args.change) _ _ _ (get_or c.loop-account.account-items c.loop-account.account-index c.account-item.result) (omega arith) c.loop-account.invariant
    (ap (get_or c.loop-account.account-items c.loop-account.account-index) c.account-item.is)
