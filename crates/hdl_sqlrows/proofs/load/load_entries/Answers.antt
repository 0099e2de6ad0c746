use Rattle.std.proofs.Common.{◌≡◌, [], ◌∷◌, ◌++◌, rules, refl, sym, ap, subst, arith, ◌∙◌}
use Rattle.sqlite.specs.Effect.{Database}
use Rattle.sqlite.specs.Held.{state}
use Rattle.sqlite.specs.State.{HasCleanDisk}
use Rattle.sqlite.proofs.Callers.{unchanged_then}
use Rattle.hdl_rows.specs.Table.{IsPlaced}
use Rattle.hdl_rows.specs.Write.{Add}
use Rattle.hdl_rows.proofs.Writes.{stay_placed_lem}
use Rattle.hdl_sqlrows.specs.Stored.{handle_in, value_in}
use Rattle.hdl_sqlrows.specs.Loaded.{IsLoaded, entry_shown}
use Rattle.hdl_sqlrows.proofs.Filed.{survives_both}
use Rattle.hdl_sqlrows.proofs.LoadTexts.{load_entries, load_plain}
use Rattle.hdl_sqlrows.proofs.Loads.{no_entry_taken, entry_taken, entries_shown, EntriesTaken}
use Rattle.hdl_sqlrows.proofs.Streams.{refused_as, refused_kept, no_commit, begins}
use Rattle.hdl_sqlrows.proofs.load.load_entries.Goals as goal

pub returns-in_err-found-clause-kept : goal.returns-in_err-found-clause-kept
returns-in_err-found-clause-kept g c =
    let refused = refused_as c.query.result _ _ c.in_err-found.was c.query.follows.holds-at-none in
    refused_kept g.S.Store c.args.conn.now c.query.follows.lender-at-none load_entries c.query.result _ c.in_err-found.was refused

pub returns-in_err-found-clause-survives : goal.returns-in_err-found-clause-survives
returns-in_err-found-clause-survives g c =
    let refused = refused_as c.query.result _ _ c.in_err-found.was c.query.follows.holds-at-none in
    no_commit (state g.S.Store c.args.conn.now) (state g.S.Store c.query.follows.lender-at-none) load_entries load_plain.1 c.requires.layout refused.survives

pub rows-init : goal.rows-init
rows-init g c =
    let made = c.in_ok-found.ensures in
    record {
      same_reference = refl;
      mode = made.mode;
      survives = no_commit (state g.S.Store c.args.conn.now) (state g.S.Store c.in_ok-found.found.conn.now) load_entries load_plain.1 c.requires.layout made.survives;
      placed = c.requires.placed;
      given = λ clean.
          let begun = begins g.S.Store c.args.conn.now c.in_ok-found.found.conn.now load_entries load_plain.1 c.requires.layout made.survives (made.begun clean) clean in
          (begun.1, [], begun.0, no_entry_taken (state g.S.Store c.args.conn.now).now.trees _ (c.requires.handles (omega (arith, clean, made.survives.clean))));
    }

pub rows-preserved : goal.rows-preserved
rows-preserved g c =
    let old = state g.S.Store c.args.conn.now in
    let mid = state g.S.Store c.rows.found.conn.now in
    let now = state g.S.Store c.next.follows.lender-at-none.conn.now in
    let moved = c.next.follows.holds-at-none in
    let was = c.rows.invariant in
    let took = c.in_ok-take_entry.ensures in
    record {
      same_reference = moved.same_reference ∙ was.same_reference;
      mode = λ free. moved.mode (was.mode free);
      survives = survives_both old mid now was.survives moved.survives;
      placed = subst IsPlaced (sym took.put)
          (stay_placed_lem (g.R.Rows.content c.rows.rows) (Add (handle_in (entry_shown c.in-Some.row.now)) (value_in (entry_shown c.in-Some.row.now) ∷ [])) was.placed (took.there, (tt, tt), (took.absent, tt)));
      given = λ clean.
          let before = was.given (omega (arith, clean, moved.survives.clean)) in
          let more = (rw (c.in_ok-row.was, c.in-Some.is) at (moved.ok clean)) load_entries [] before.1 before.2 in
          let same = unchanged_then old mid now before.0 (rw c.in_ok-row.was at (moved.same clean)) in
          (same, before.1 ++ c.in-Some.row.now ∷ [], more, entry_taken (old.now.trees 0) before.1 c.rows.last (g.R.Rows.content c.rows.rows) (g.R.Rows.content c.take_entry.new.rows) c.in-Some.row.now c.in_ok-take_entry.field-0 before.3 took.sound took.rowid took.above took.absent took.put);
    }

pub returns-in_default-clause-loaded : goal.returns-in_default-clause-loaded
returns-in_default-clause-loaded g c clean =
    let mid = state g.S.Store c.rows.found.conn.now in
    let moved = c.next.follows.holds-at-none in
    let last = c.next.follows.lender-at-none.conn.now in
    let late : HasCleanDisk (state g.S.Store last) = search rules in
    let was = c.rows.invariant in
    let before = was.given (omega (arith, late, moved.survives.clean)) in
    let shown = (rw (c.in_ok-row.was, c.in_default.is) at (moved.ok late)) load_entries [] before.1 before.2 in
    let same = rw c.in_ok-row.was at (moved.same late) in
    let is = ap (λ (d : Database). d.schema) before.0.0.now_is ∙ c.requires.layout (omega (arith, late, moved.survives.clean, was.survives.clean)) in
    let taken = subst (λ (d : Database). EntriesTaken (d.trees 0) before.1 c.rows.last (g.R.Rows.content c.rows.rows)) (sym before.0.0.now_is) before.3 in
    let loaded = entries_shown mid (state g.S.Store last) before.1 c.rows.last (g.R.Rows.content c.rows.rows) is shown taken in
    let end : last ≡ c.conn-in_default-1.given.0 = search rules in
    subst (λ h. IsLoaded (state g.S.Store h).now.trees (g.R.Rows.content c.rows.rows)) end (subst (λ (d : Database). IsLoaded d.trees (g.R.Rows.content c.rows.rows)) (sym same.0.now_is) loaded)
