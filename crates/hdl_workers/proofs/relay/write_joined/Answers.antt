use Rattle.std.proofs.Common.{◌≡◌, MatchOption, List, [], ◌∷◌, ◌++◌, subst, sym, rules}
use Rattle.hdl_events.specs.declared.Outcome.{Outcome}
use Rattle.hdl_workers.specs.Octets.{octets_of}
use Rattle.hdl_workers.specs.WorkerLane.{taken_by, Joins}
use Rattle.hdl_workers.proofs.Writes.{first_part, second_whole, second_part, if_ok}
use Rattle.hdl_workers.proofs.relay.write_joined.Goals as goal

pub returns-in_err-write_all-in-Ok-clause-part : goal.returns-in_err-write_all-in-Ok-clause-part
returns-in_err-write_all-in-Ok-clause-part g c = λ is_observed t taken.
    let begins : c.try_extend_from_slice.new.self.items ≡ octets_of c.args.first.now = search rules in
    first_part c.join-last.result t _ _ _ c.as_slice.result.now c.args.first.now (g.D.Door.current c.args.door.now) (g.D.Door.current c.write_all.new.door) taken begins (subst (λ r. MatchOption c.join-last.result (Joins (taken_by c.args.line.now) c.try_extend_from_slice.new.self.items (taken_by c.join-last.new.line) r) (λ last. (w : List Outcome) × (taken_by c.join-last.new.line ≡ w ++ last ∷ []) × Joins (taken_by c.args.line.now) c.try_extend_from_slice.new.self.items w r)) (sym c.as_slice.ensures.value) c.join-last.ensures.joined) (c.write_all.ensures.part is_observed).0 (c.write_all.ensures.part is_observed).1

pub returns-in-Some-clause-whole : goal.returns-in-Some-clause-whole
returns-in-Some-clause-whole g c = λ is_observed.
    let begins : c.try_extend_from_slice.new.self.items ≡ octets_of c.args.first.now = search rules in
    if_ok c.write_outcome-in-Some.result (λ then t taken. second_whole t _ _ c.in-Some.ensures.joined.0 _ _ c.args.first.now c.in-Some.outcome (g.D.Door.current c.args.door.now) (g.D.Door.current c.write_all.new.door) (g.D.Door.current c.write_outcome-in-Some.new.door) taken begins c.in-Some.ensures.joined.1
    (subst (λ r. Joins (taken_by c.args.line.now) c.try_extend_from_slice.new.self.items c.in-Some.ensures.joined.0 r) (sym c.as_slice.ensures.value) c.in-Some.ensures.joined.2) (c.in_ok-write_all-in-Ok.ensures.whole is_observed) then) (c.write_outcome-in-Some.ensures.whole is_observed)

pub returns-in-Some-clause-part : goal.returns-in-Some-clause-part
returns-in-Some-clause-part g c = λ is_observed t taken.
    let begins : c.try_extend_from_slice.new.self.items ≡ octets_of c.args.first.now = search rules in
    second_part t _ _ c.in-Some.ensures.joined.0 _ _ c.args.first.now c.in-Some.outcome (g.D.Door.current c.args.door.now) (g.D.Door.current c.write_all.new.door) (g.D.Door.current c.write_outcome-in-Some.new.door) taken begins c.in-Some.ensures.joined.1 (subst (λ r. Joins (taken_by c.args.line.now) c.try_extend_from_slice.new.self.items c.in-Some.ensures.joined.0 r) (sym c.as_slice.ensures.value) c.in-Some.ensures.joined.2) (c.in_ok-write_all-in-Ok.ensures.whole is_observed)
    (c.write_outcome-in-Some.ensures.part is_observed).0 (c.write_outcome-in-Some.ensures.part is_observed).1
