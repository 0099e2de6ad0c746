use Rattle.std.proofs.Common.{◌≡◌, take, map, IsTrue}
use Rattle.sqlite.specs.State.{HasCleanDisk, Survives}
use Rattle.sqlite.specs.Held.{state}
use Rattle.hdl_sqlrows.specs.Filed.{KeepsCommitted, draft_table}
use Rattle.hdl_sqlrows.specs.Opening.{OnlyLooks, first_at, absent}
use Rattle.hdl_sqlrows.proofs.opening.absent_of.Given as goal

abbrev pub invariant-loop-first : goal.invariant-loop-first
invariant-loop-first g l =
    let before = state g.S.Store l.fn.tx.conn.now in
    let now = state g.S.Store l.tx.conn.now in
    record {
      same_reference : l.tx.conn.ghost_name ≡ l.fn.tx.conn.ghost_name;
      survives : Survives before now (λ _. ⊥);
      committed : KeepsCommitted before now;
      same : HasCleanDisk now → IsTrue before.is_open → OnlyLooks before now;
      found : HasCleanDisk now → IsTrue before.is_open → map first_at l.firsts.items ≡ absent (draft_table before) (take l.first-index (map first_at l.opening));
    }
