use Rattle.std.proofs.Common.{sym, subst}
use Rattle.hdl_rows.specs.Table.{with_values}
use Rattle.hdl_cachedrows.specs.Cache.{IsKept}
use Rattle.hdl_cachedrows.proofs.Truth.{puts_agree}
use Rattle.hdl_cachedrows.proofs.cache.Cache.put.Goals as goal

pub returns-in_default-clause-still_true : goal.returns-in_default-clause-still_true
returns-in_default-clause-still_true c = λ t all. c.forget.ensures.still_true t (with_values t c.args.name.now c.args.values.now) all (puts_agree t c.args.name.now c.args.values.now)

pub returns-in-Ok-clause-still_true : goal.returns-in-Ok-clause-still_true
returns-in-Ok-clause-still_true c = λ t all.
    let next = with_values t c.args.name.now c.args.values.now in
    let was = c.in-Some.ensures.of_table t all in
    c.insert.ensures.still_true (with_values t c.args.name.now c.args.values.now)
    (c.forget.ensures.still_true t (with_values t c.args.name.now c.args.values.now) all (puts_agree t c.args.name.now c.args.values.now))
    (subst (λ h. IsKept next h c.in-Ok.kept) (sym was.0) (c.in-Ok.ensures.of_table t c.args.name.now was.1))

pub returns-in_default-with_values-clause-still_true : goal.returns-in_default-with_values-clause-still_true
returns-in_default-with_values-clause-still_true c = λ t all. c.forget.ensures.still_true t (with_values t c.args.name.now c.args.values.now) all (puts_agree t c.args.name.now c.args.values.now)
