use Rattle.std.proofs.Common.{◌≡◌, ◌∙◌, map, ap, sym, arith}
use Rattle.sqlite.specs.State.{HasCleanDisk}
use Rattle.sqlite.specs.Held.{state}
use Rattle.hdl_sqlrows.specs.Filed.{draft_table}
use Rattle.hdl_sqlrows.specs.Opening.{base_in, noted_with, left_to_open, absent, first_at}
use Rattle.hdl_sqlrows.proofs.Filed.{on_ok}
use Rattle.hdl_sqlrows.proofs.Firsts.{free_then, opened_by}
use Rattle.hdl_sqlrows.proofs.opening.open_within.Goals as goal

pub put_firsts-requires-clause-free : goal.put_firsts-requires-clause-free
put_firsts-requires-clause-free g c clean up =
    let s0 = state g.S.Store c.args.tx.now.conn.now in
    let s1 = state g.S.Store c.unopened_of.new.tx.conn.now in
    let s2 = state g.S.Store c.absent_of.new.tx.conn.now in
    let clean1 : HasCleanDisk s1 = omega (arith, clean, c.absent_of.ensures.survives.clean) in
    let clean0 : HasCleanDisk s0 = omega (arith, clean1, c.unopened_of.ensures.survives.clean) in
    let up1 = (c.absent_of.ensures.committed clean up).0 in
    let up0 = (c.unopened_of.ensures.committed clean1 up1).0 in
    let new : map first_at c.deref.result.now ≡ left_to_open (base_in s0.now.trees).opened c.args.opening.now = ap (map first_at) c.deref.ensures.value ∙ c.in_ok-unopened.ensures.found clean1 up0 in
    let fresh : map first_at c.deref-2.result.now ≡ absent (draft_table s1) (map first_at c.deref.result.now) = ap (map first_at) c.deref-2.ensures.value ∙ c.in_ok-fresh.ensures.found clean up1 in
    free_then s0 s1 s2 c.args.opening.now (map first_at c.deref.result.now) (map first_at c.deref-2.result.now) (c.in_ok-unopened.ensures.same clean1 up0) (c.in_ok-fresh.ensures.same clean up1) new fresh (c.requires.placed clean0 up0) c.requires.distinct

pub returns-clause-opened : goal.returns-clause-opened
returns-clause-opened g c =
    let s0 = state g.S.Store c.args.tx.now.conn.now in
    let s1 = state g.S.Store c.unopened_of.new.tx.conn.now in
    let s2 = state g.S.Store c.absent_of.new.tx.conn.now in
    let s3 = state g.S.Store c.put_firsts.new.tx.conn.now in
    let s4 = state g.S.Store c.note_firsts.new.tx.conn.now in
    on_ok c.note_firsts.result _ _ (λ noted clean up0.
    let clean3 : HasCleanDisk s3 = omega (arith, clean, c.note_firsts.ensures.survives.clean) in
    let clean2 : HasCleanDisk s2 = omega (arith, clean3, c.put_firsts.ensures.survives.clean) in
    let clean1 : HasCleanDisk s1 = omega (arith, clean2, c.absent_of.ensures.survives.clean) in
    let one = c.in_ok-unopened.ensures.same clean1 up0 in
    let two = c.in_ok-fresh.ensures.same clean2 one.is_open in
    let new : map first_at c.deref.result.now ≡ left_to_open (base_in s0.now.trees).opened c.args.opening.now = ap (map first_at) c.deref.ensures.value ∙ c.in_ok-unopened.ensures.found clean1 up0 in
    let fresh : map first_at c.deref-2.result.now ≡ absent (draft_table s1) (map first_at c.deref.result.now) = ap (map first_at) c.deref-2.ensures.value ∙ c.in_ok-fresh.ensures.found clean2 one.is_open in
    let put = c.in_ok-put_firsts.ensures.put clean3 two.is_open in
    let again : map first_at c.deref-3.result.now ≡ map first_at c.deref.result.now = ap (map first_at) (c.deref-3.ensures.value ∙ sym c.deref.ensures.value) in
    opened_by s0 s1 s2 c.args.opening.now (map first_at c.deref.result.now) (map first_at c.deref-2.result.now) one two new fresh s3 s4 put (c.in_ok-put_firsts.ensures.beside clean3)
    (noted clean put.0 ∙ ap (noted_with (base_in s3.now.trees)) again)) c.note_firsts.ensures.noted
