use Rattle.std.proofs.Common.{◌≡◌, map, ◌++◌, take, drop}
use Rattle.hdl_boundedrows.specs.Bounded.{after_change}
use Rattle.hdl_boundedrows.proofs.account.Accounts.count_change.Given as goal

abbrev pub invariant-loop-account : goal.invariant-loop-account
invariant-loop-account l = l.account-items ≡ map (after_change l.prefix l.change) (take l.account-index l.initial.account-items) ++ drop l.account-index l.initial.account-items
