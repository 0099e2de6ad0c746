use Rattle.std.proofs.Common.{◌≡◌, ◌∙◌, ap, subst, rules, OnOk, OnErr}
use Rattle.sqlite.specs.Effect.{Database}
use Rattle.sqlite.specs.State.{HasCleanDisk, Survives}
use Rattle.sqlite.specs.Held.{state}
use Rattle.hdl_rows.specs.Table.{Table}
use Rattle.hdl_sqlrows.specs.Layout.{no_schema}
use Rattle.hdl_sqlrows.specs.Stored.{IsBetweenCalls}
use Rattle.hdl_sqlrows.specs.Filed.{WhereOpen, KeepsCommitted}
use Rattle.hdl_sqlrows.specs.Opening.{base_in, no_base, opened_with, HasFiled}
use Rattle.hdl_sqlrows.proofs.Filed.{of_now, made_by, kept_by, leaves_surely, on_ok}
use Rattle.hdl_sqlrows.proofs.opening.open_new.Goals as goal

pub make_and_open-written-requires-clause-bare : goal.make_and_open-written-requires-clause-bare
make_and_open-written-requires-clause-bare g c clean up =
    let it = of_now g.S.Store c.args.conn.now c.transaction-tx.result.conn.now (λ (d : Database). d.schema ≡ no_schema) c.transaction-tx.ensures.begun (λ q u. (c.requires.blank q u).schema_is) clean up in
    record { schema_is = it.0; inside = it.1 }

pub finish-requires : goal.finish-requires
finish-requires g c = record { inside = on_ok c.make_and_open-written.result _ _ (λ made clean up. (made clean).2) c.make_and_open-written.ensures.inside }

pub returns-clause-settled : goal.returns-clause-settled
returns-clause-settled g c =
    let end : c.finish.new.tx.0 ≡ c.conn-1.given.0 = search rules in
    subst (λ h. OnOk c.finish.result (WhereOpen (state g.S.Store h) (IsBetweenCalls (state g.S.Store h)))) end c.finish.ensures.settled

pub returns-clause-done : goal.returns-clause-done
returns-clause-done g c =
    let end : c.finish.new.tx.0 ≡ c.conn-1.given.0 = search rules in
    subst (λ h. OnOk c.finish.result (HasCleanDisk (state g.S.Store h) → HasFiled (state g.S.Store h) (opened_with no_base c.args.opening.now))) end
    (made_by g.S.Store c.args.conn.now c.transaction-tx.result.conn.now c.make_and_open-written.new.tx.conn.now c.finish.new.tx.0 (λ (t : Table). t) c.make_and_open-written.result c.finish.result c.transaction-tx.ensures.begun (λ clean up. (c.requires.blank clean up).committed) c.make_and_open-written.ensures.survives c.finish.ensures.survives c.make_and_open-written.ensures.committed (λ db. base_in db ≡ opened_with no_base c.args.opening.now) (on_ok c.make_and_open-written.result _ _ (λ opened clean up. opened clean) c.make_and_open-written.ensures.opened) c.finish.ensures.done)

pub returns-clause-undone : goal.returns-clause-undone
returns-clause-undone g c =
    let end : c.finish.new.tx.0 ≡ c.conn-1.given.0 = search rules in
    subst (λ h. OnErr c.finish.result (KeepsCommitted (state g.S.Store c.args.conn.now) (state g.S.Store h))) end
    (kept_by g.S.Store c.args.conn.now c.transaction-tx.result.conn.now c.make_and_open-written.new.tx.conn.now c.finish.new.tx.0 (λ (t : Table). t) c.make_and_open-written.result c.finish.result c.transaction-tx.ensures.begun (λ clean up. (c.requires.blank clean up).committed) c.make_and_open-written.ensures.survives c.finish.ensures.survives c.make_and_open-written.ensures.committed c.finish.ensures.undone)

pub returns-clause-survives : goal.returns-clause-survives
returns-clause-survives g c =
    let end : c.finish.new.tx.0 ≡ c.conn-1.given.0 = search rules in
    subst (λ h. Survives (state g.S.Store c.args.conn.now) (state g.S.Store h) (λ db. base_in db ≡ opened_with no_base c.args.opening.now)) end
    (leaves_surely g.S.Store c.args.conn.now c.transaction-tx.result.conn.now c.make_and_open-written.new.tx.conn.now c.finish.new.tx.0 (λ (t : Table). t) c.make_and_open-written.result c.finish.result c.transaction-tx.ensures.begun (λ clean up. (c.requires.blank clean up).committed) c.make_and_open-written.ensures.survives c.finish.ensures.survives c.make_and_open-written.ensures.committed (λ db. base_in db ≡ opened_with no_base c.args.opening.now) c.make_and_open-written.ensures.opened)

pub returns-clause-durable : goal.returns-clause-durable
returns-clause-durable g c =
    on_ok c.finish.result _ _ (λ done clean db may.
    let it = done clean in
    ap base_in (g.met.S.Store.settled c.conn-1.given.0.store db it.0 may) ∙ it.1) (returns-clause-done g c)
