use Rattle.std.specs.List.{AllByRecursion}
use Rattle.sqlite.specs.Effect.{Database}
use Rattle.sqlite.specs.Held.{state}
use Rattle.hdl_sqlrows.specs.Opening.{IsOpenedRow}
use Rattle.hdl_sqlrows.proofs.Filed.{of_now}
use Rattle.hdl_sqlrows.proofs.Typed.{typed_opened}
use Rattle.hdl_sqlrows.proofs.opening.are_opened.Goals as goal

pub unopened_of-unopened-requires-clause-named : goal.unopened_of-unopened-requires-clause-named
unopened_of-unopened-requires-clause-named g c clean up =
    (of_now g.S.Store c.args.conn.now c.transaction-tx.result.conn.now (λ (d : Database). AllByRecursion IsOpenedRow (d.trees 4)) c.transaction-tx.ensures.begun
    (λ q u. typed_opened (state g.S.Store c.args.conn.now).now (c.schema.ensures.live u).0 (c.requires.settled q u).whole.layout) clean up).0
