use Rattle.std.proofs.Common.{◌≡◌, ◌∙◌, ap, subst, rules, IsTrue, OnOk, OnErr, arith}
use Rattle.std.specs.List.{AllByRecursion}
use Rattle.sqlite.specs.Effect.{Database}
use Rattle.sqlite.specs.State.{HasCleanDisk, Survives}
use Rattle.sqlite.specs.Held.{state}
use Rattle.hdl_rows.specs.Table.{Table, IsPlaced}
use Rattle.hdl_sqlrows.specs.Stored.{IsBetweenCalls}
use Rattle.hdl_sqlrows.specs.Filed.{WhereOpen}
use Rattle.hdl_sqlrows.specs.Opening.{base_in, filed_base, opened_with, HasFiled, IsOpenedRow}
use Rattle.hdl_sqlrows.proofs.Filed.{of_now, even, inside_first, at_first, made_by, kept_by, leaves_if_open, settled_again, on_ok, on_err}
use Rattle.hdl_sqlrows.proofs.Firsts.{begun_base}
use Rattle.hdl_sqlrows.proofs.Typed.{typed_opened}
use Rattle.hdl_sqlrows.proofs.opening.open_more.Goals as goal

pub open_within-written-requires-clause-inside : goal.open_within-written-requires-clause-inside
open_within-written-requires-clause-inside g c = inside_first g.S.Store c.args.conn.now c.transaction-tx.result.conn.now c.transaction-tx.ensures.begun c.requires.settled

pub open_within-written-requires-clause-named : goal.open_within-written-requires-clause-named
open_within-written-requires-clause-named g c clean up =
    (of_now g.S.Store c.args.conn.now c.transaction-tx.result.conn.now (λ (d : Database). AllByRecursion IsOpenedRow (d.trees 4)) c.transaction-tx.ensures.begun
    (λ q u. typed_opened (state g.S.Store c.args.conn.now).now (c.schema.ensures.live u).0 (c.requires.settled q u).whole.layout) clean up).0

pub open_within-written-requires-clause-placed : goal.open_within-written-requires-clause-placed
open_within-written-requires-clause-placed g c = at_first g.S.Store c.args.conn.now c.transaction-tx.result.conn.now (λ (t : Table). IsPlaced t) c.transaction-tx.ensures.begun (even (state g.S.Store c.args.conn.now) c.requires.settled) c.requires.placed

pub finish-requires : goal.finish-requires
finish-requires g c = record { inside = on_ok c.open_within-written.result _ _ (λ made clean up. (made clean (c.open_within-written.ensures.committed clean up).0).1) c.open_within-written.ensures.inside }

pub returns-clause-settled : goal.returns-clause-settled
returns-clause-settled g c =
    let end : c.finish.new.tx.0 ≡ c.conn-1.given.0 = search rules in
    subst (λ h. WhereOpen (state g.S.Store h) (IsBetweenCalls (state g.S.Store h))) end (λ clean up.
    let before : HasCleanDisk (state g.S.Store c.args.conn.now) = omega (
      arith,
      clean,
      (leaves_if_open g.S.Store c.args.conn.now c.transaction-tx.result.conn.now c.open_within-written.new.tx.conn.now c.finish.new.tx.0 (λ (t : Table). t) c.open_within-written.result c.finish.result c.transaction-tx.ensures.begun (even (state g.S.Store c.args.conn.now) c.requires.settled) c.open_within-written.ensures.survives c.finish.ensures.survives c.open_within-written.ensures.committed (λ db. base_in db ≡ opened_with (filed_base (state g.S.Store c.args.conn.now)) c.args.opening.now) (on_ok c.open_within-written.result _ _ (λ opened clean up.
          let late : HasCleanDisk (state g.S.Store c.transaction-tx.result.conn.now) = omega (arith, clean, c.open_within-written.ensures.survives.clean) in
          opened clean up ∙ ap (λ b. opened_with b c.args.opening.now) (begun_base g.S.Store c.args.conn.now c.transaction-tx.result.conn.now c.transaction-tx.ensures.begun (even (state g.S.Store c.args.conn.now) c.requires.settled) late up)) c.open_within-written.ensures.opened)).clean,
    ) in
    settled_again (state g.S.Store c.args.conn.now) (state g.S.Store c.finish.new.tx.0) c.finish.result c.requires.settled before c.finish.ensures.mode c.finish.ensures.settled (kept_by g.S.Store c.args.conn.now c.transaction-tx.result.conn.now c.open_within-written.new.tx.conn.now c.finish.new.tx.0 (λ (t : Table). t) c.open_within-written.result c.finish.result c.transaction-tx.ensures.begun (even (state g.S.Store c.args.conn.now) c.requires.settled) c.open_within-written.ensures.survives c.finish.ensures.survives c.open_within-written.ensures.committed c.finish.ensures.undone) c.finish.ensures.back clean up)

pub returns-clause-done : goal.returns-clause-done
returns-clause-done g c =
    let end : c.finish.new.tx.0 ≡ c.conn-1.given.0 = search rules in
    subst (λ h. OnOk c.finish.result (HasCleanDisk (state g.S.Store h) → HasFiled (state g.S.Store h) (opened_with (filed_base (state g.S.Store c.args.conn.now)) c.args.opening.now))) end
    (made_by g.S.Store c.args.conn.now c.transaction-tx.result.conn.now c.open_within-written.new.tx.conn.now c.finish.new.tx.0 (λ (t : Table). t) c.open_within-written.result c.finish.result c.transaction-tx.ensures.begun (even (state g.S.Store c.args.conn.now) c.requires.settled) c.open_within-written.ensures.survives c.finish.ensures.survives c.open_within-written.ensures.committed (λ db. base_in db ≡ opened_with (filed_base (state g.S.Store c.args.conn.now)) c.args.opening.now) (on_ok c.open_within-written.result _ _ (λ opened clean up.
    let late : HasCleanDisk (state g.S.Store c.transaction-tx.result.conn.now) = omega (arith, clean, c.open_within-written.ensures.survives.clean) in
    opened clean up ∙ ap (λ b. opened_with b c.args.opening.now) (begun_base g.S.Store c.args.conn.now c.transaction-tx.result.conn.now c.transaction-tx.ensures.begun (even (state g.S.Store c.args.conn.now) c.requires.settled) late up)) c.open_within-written.ensures.opened) c.finish.ensures.done)

pub returns-clause-undone : goal.returns-clause-undone
returns-clause-undone g c =
    let end : c.finish.new.tx.0 ≡ c.conn-1.given.0 = search rules in
    subst (λ h. OnErr c.finish.result (WhereOpen (state g.S.Store h) (filed_base (state g.S.Store h) ≡ filed_base (state g.S.Store c.args.conn.now)))) end
    (on_err c.finish.result _ _ (λ kept clean up. ap (λ (d : Database). base_in d.trees) (kept clean up).1) (kept_by g.S.Store c.args.conn.now c.transaction-tx.result.conn.now c.open_within-written.new.tx.conn.now c.finish.new.tx.0 (λ (t : Table). t) c.open_within-written.result c.finish.result c.transaction-tx.ensures.begun (even (state g.S.Store c.args.conn.now) c.requires.settled) c.open_within-written.ensures.survives c.finish.ensures.survives c.open_within-written.ensures.committed c.finish.ensures.undone))

pub returns-clause-survives : goal.returns-clause-survives
returns-clause-survives g c =
    let end : c.finish.new.tx.0 ≡ c.conn-1.given.0 = search rules in
    subst (λ h. Survives (state g.S.Store c.args.conn.now) (state g.S.Store h) (λ db. IsTrue (state g.S.Store c.args.conn.now).is_open → base_in db ≡ opened_with (filed_base (state g.S.Store c.args.conn.now)) c.args.opening.now)) end
    (leaves_if_open g.S.Store c.args.conn.now c.transaction-tx.result.conn.now c.open_within-written.new.tx.conn.now c.finish.new.tx.0 (λ (t : Table). t) c.open_within-written.result c.finish.result c.transaction-tx.ensures.begun (even (state g.S.Store c.args.conn.now) c.requires.settled) c.open_within-written.ensures.survives c.finish.ensures.survives c.open_within-written.ensures.committed (λ db. base_in db ≡ opened_with (filed_base (state g.S.Store c.args.conn.now)) c.args.opening.now) (on_ok c.open_within-written.result _ _ (λ opened clean up.
    let late : HasCleanDisk (state g.S.Store c.transaction-tx.result.conn.now) = omega (arith, clean, c.open_within-written.ensures.survives.clean) in
    opened clean up ∙ ap (λ b. opened_with b c.args.opening.now) (begun_base g.S.Store c.args.conn.now c.transaction-tx.result.conn.now c.transaction-tx.ensures.begun (even (state g.S.Store c.args.conn.now) c.requires.settled) late up)) c.open_within-written.ensures.opened))

pub returns-clause-durable : goal.returns-clause-durable
returns-clause-durable g c =
    on_ok c.finish.result _ _ (λ done clean db may.
    let it = done clean in
    ap base_in (g.met.S.Store.settled c.conn-1.given.0.store db it.0 may) ∙ it.1) (returns-clause-done g c)

pub returns-clause-restored : goal.returns-clause-restored
returns-clause-restored g c =
    on_err c.finish.result _ _ (λ undone clean up db may.
    ap base_in (g.met.S.Store.settled c.conn-1.given.0.store db up may) ∙ undone clean up) (returns-clause-undone g c)
