use Rattle.std.proofs.Common.{◌≡◌, ◌∙◌, map, sym, ap, subst, arith}
use Rattle.std.specs.FinSet as set
use Rattle.std.specs.List.{AllByRecursion}
use Rattle.sqlite.specs.State.{HasCleanDisk}
use Rattle.sqlite.specs.Held.{state}
use Rattle.hdl_rows.specs.Table.{Table, IsPlaced}
use Rattle.hdl_sqlrows.specs.Stored.{handle_in}
use Rattle.hdl_sqlrows.specs.Opening.{base_in, no_base, opened_with, IsOpenedRow}
use Rattle.hdl_sqlrows.proofs.Filed.{on_ok}
use Rattle.hdl_sqlrows.proofs.Firsts.{nothing_placed}
use Rattle.hdl_sqlrows.proofs.opening.make_and_open.Goals as goal

pub open_within-requires-clause-inside : goal.open_within-requires-clause-inside
open_within-requires-clause-inside g c clean up = (c.in_ok-make_within.ensures.made clean).1.1

pub open_within-requires-clause-named : goal.open_within-requires-clause-named
open_within-requires-clause-named g c clean up = subst (AllByRecursion IsOpenedRow) (sym (c.in_ok-make_within.ensures.none_opened clean)) tt

pub open_within-requires-clause-placed : goal.open_within-requires-clause-placed
open_within-requires-clause-placed g c clean up = subst (λ (t : Table). IsPlaced t) (sym (c.in_ok-make_within.ensures.made clean).1.2) nothing_placed

pub returns-clause-inside : goal.returns-clause-inside
returns-clause-inside g c =
    let mid = state g.S.Store c.make_within.new.tx.conn.now in
    on_ok c.open_within.result _ _ (λ inside clean.
    let late : HasCleanDisk mid = omega (arith, clean, c.open_within.ensures.survives.clean) in
    let made = c.in_ok-make_within.ensures.made late in
    let last = inside clean made.1.0 in
    (made.0, last.0, last.1)) c.open_within.ensures.inside

pub returns-clause-opened : goal.returns-clause-opened
returns-clause-opened g c =
    let mid = state g.S.Store c.make_within.new.tx.conn.now in
    on_ok c.open_within.result _ _ (λ opened clean.
    let late : HasCleanDisk mid = omega (arith, clean, c.open_within.ensures.survives.clean) in
    let made = c.in_ok-make_within.ensures.made late in
    let none = c.in_ok-make_within.ensures.none_opened late in
    let blank : base_in mid.now.trees ≡ no_base = (λ i. record { table = made.1.2 i; opened = set.from_list (map handle_in (none i)) }) in
    opened clean made.1.0 ∙ ap (λ b. opened_with b c.args.opening.now) blank) c.open_within.ensures.opened
