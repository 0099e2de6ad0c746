use Rattle.std.proofs.Common.{◌≡◌, drop, map, fold, IsTrue}
use Rattle.sqlite.specs.State.{HasCleanDisk, Survives}
use Rattle.sqlite.specs.Held.{state}
use Rattle.hdl_sqlrows.specs.Stored.{IsInside}
use Rattle.hdl_sqlrows.specs.Filed.{WhereOpen, KeepsCommitted, draft_table}
use Rattle.hdl_sqlrows.specs.Opening.{with_first, first_at, AreFree}
use Rattle.hdl_sqlrows.proofs.opening.put_firsts.Given as goal

abbrev pub invariant-loop-first : goal.invariant-loop-first
invariant-loop-first g l =
    let before = state g.S.Store l.fn.tx.conn.now in
    let now = state g.S.Store l.tx.conn.now in
    record {
      same_reference : l.tx.conn.ghost_name ≡ l.fn.tx.conn.ghost_name;
      survives : Survives before now (λ _. ⊥);
      committed : KeepsCommitted before now;
      up : HasCleanDisk now → IsTrue before.is_open → IsTrue now.is_open;
      inside : WhereOpen now (IsInside now);
      free : WhereOpen now (AreFree (draft_table now) (drop l.first-index (map first_at l.firsts)));
      put : WhereOpen now (fold with_first (draft_table now) (drop l.first-index (map first_at l.firsts)) ≡ fold with_first (draft_table before) (map first_at l.firsts));
      beside : HasCleanDisk now → now.now.trees 4 ≡ before.now.trees 4;
    }
