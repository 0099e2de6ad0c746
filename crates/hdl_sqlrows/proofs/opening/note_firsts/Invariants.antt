use Rattle.std.proofs.Common.{◌≡◌, drop, map, IsTrue}
use Rattle.std.specs.List.{AllByRecursion}
use Rattle.sqlite.specs.State.{HasCleanDisk, Survives}
use Rattle.sqlite.specs.Held.{state}
use Rattle.hdl_sqlrows.specs.Stored.{IsInside}
use Rattle.hdl_sqlrows.specs.Filed.{WhereOpen, KeepsCommitted}
use Rattle.hdl_sqlrows.specs.Opening.{base_in, noted_with, first_at, IsOpenedRow}
use Rattle.hdl_sqlrows.proofs.opening.note_firsts.Given as goal

abbrev pub invariant-loop-first : goal.invariant-loop-first
invariant-loop-first g l =
    let before = state g.S.Store l.fn.tx.conn.now in
    let now = state g.S.Store l.tx.conn.now in
    record {
      same_reference : l.tx.conn.ghost_name ≡ l.fn.tx.conn.ghost_name;
      survives : Survives before now (λ _. ⊥);
      committed : KeepsCommitted before now;
      up : HasCleanDisk now → IsTrue before.is_open → IsTrue now.is_open;
      inside : WhereOpen now (IsInside now);
      named : WhereOpen now (AllByRecursion IsOpenedRow (now.now.trees 4));
      noted : WhereOpen now (noted_with (base_in now.now.trees) (drop l.first-index (map first_at l.firsts)) ≡ noted_with (base_in before.now.trees) (map first_at l.firsts));
    }
