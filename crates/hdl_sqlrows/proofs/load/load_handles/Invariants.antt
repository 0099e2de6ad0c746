use Rattle.std.proofs.Common.{◌≡◌, List, [], false}
use Rattle.sqlite_value.specs.Order.{Row}
use Rattle.sqlite.specs.State.{HasCleanDisk, IsUnchanged, Survives}
use Rattle.sqlite.specs.Held.{state}
use Rattle.sqlite.specs.Given.{HasGiven}
use Rattle.hdl_rows.specs.Table.{IsPlaced}
use Rattle.hdl_sqlrows.proofs.LoadTexts.{load_handles}
use Rattle.hdl_sqlrows.proofs.Loads.{HandlesTaken}
use Rattle.hdl_sqlrows.proofs.load.load_handles.Given as goal

abbrev pub invariant-rows : goal.invariant-rows
invariant-rows g l =
    let old = state g.S.Store l.fn.conn in
    let now = state g.S.Store l.found.conn.now in
    record {
      same_reference : l.found.conn.ghost_name ≡ l.initial.found.conn.ghost_name;
      mode : l.fn.conn.in_transaction ≡ false → l.found.conn.now.in_transaction ≡ false;
      survives : Survives old now (λ _. ⊥);
      placed : IsPlaced (g.R.Rows.content l.rows);
      given : HasCleanDisk now → IsUnchanged old now × (all : List Row) × HasGiven g.S.Store load_handles [] l.found.conn.now all × HandlesTaken all l.last (g.R.Rows.content l.rows);
    }
