use Rattle.std.proofs.Common.{sym, subst}
use Rattle.hdl_rows.specs.Table.{with_new_handle}
use Rattle.hdl_cachedrows.specs.Cache.{IsKept}
use Rattle.hdl_cachedrows.proofs.Truth.{created_true}
use Rattle.hdl_cachedrows.proofs.cache.Cache.keep_created.Goals as goal

pub returns-clause-still_true : goal.returns-clause-still_true
returns-clause-still_true c = λ t all is.
    let name = c.args.name.now in
    let next = with_new_handle t c.args.name.now c.args.values.now in
    c.insert.ensures.still_true next (created_true t c.args.name.now c.args.values.now c.args.self.now.kept.entries all is.absent)
    (subst (λ h. IsKept next h c.in-Ok.kept) (sym c.in-Ok-from_slice.ensures.items) (c.in-Ok.ensures.of_table t name is))

pub returns-in_default-clause-still_true : goal.returns-in_default-clause-still_true
returns-in_default-clause-still_true c = λ t all is. created_true t c.args.name.now c.args.values.now c.args.self.now.kept.entries all is.absent

pub returns-in_default-from_slice-clause-still_true : goal.returns-in_default-from_slice-clause-still_true
returns-in_default-from_slice-clause-still_true c = λ t all is. created_true t c.args.name.now c.args.values.now c.args.self.now.kept.entries all is.absent
