use Rattle.std.proofs.Common.{◌∙◌, ap, List, ℕ}
use Rattle.std.specs.FinMap.{put}
use Rattle.hdl_value.specs.Place.{handle_cmp}
use Rattle.hdl_rows.specs.RowStore.{entries_of}
use Rattle.hdl_rows.proofs.RowsLemmas.{entries-inserted}
use Rattle.hdl_rows.proofs.Changes.{created_is}
use Rattle.hdl_rows.proofs.row_store.RowStore.create.Goals as goal

pub invariant_of-self-2 : goal.invariant_of-self-2
invariant_of-self-2 c =
    let is = ap entries_of c.in_ok-insert.ensures.entries ∙ entries-inserted c.in_ok-key.key c.in_ok-all.all c.self.inside.rows.entries ∙ ap (λ (h : List ℕ). put handle_cmp h c.in_ok-all.all.items (entries_of c.self.inside.rows.entries)) c.in_ok-key.ensures.items in
    (created_is c.args.self.now c.self.inside.rows.entries c.insert.new.self.entries c.args.name.now c.args.values.now c.in_ok-all.all.items c.self.view_is c.self.invariant c.requires.absent c.in_ok-all.ensures is).0

pub returns-clause-done : goal.returns-clause-done
returns-clause-done c =
    let is = ap entries_of c.in_ok-insert.ensures.entries ∙ entries-inserted c.in_ok-key.key c.in_ok-all.all c.self.inside.rows.entries ∙ ap (λ (h : List ℕ). put handle_cmp h c.in_ok-all.all.items (entries_of c.self.inside.rows.entries)) c.in_ok-key.ensures.items in
    (created_is c.args.self.now c.self.inside.rows.entries c.insert.new.self.entries c.args.name.now c.args.values.now c.in_ok-all.all.items c.self.view_is c.self.invariant c.requires.absent c.in_ok-all.ensures is).1
