use Rattle.std.proofs.Common.{[], ◌++◌, append_assoc, append-nil, ◌∙◌, ap, refl, sym}
use Rattle.hdl_workers.specs.WorkerLane.{taken_by}
use Rattle.hdl_workers.proofs.Used.{stamps_both, stamps_still, no_stamp}
use Rattle.hdl_workers.proofs.Closes.{opened_on, not_opened, unclosed, closed_cut, left_on}
use Rattle.hdl_workers.proofs.stream.serve_connection.Goals as goal

pub returns-then-not-open-clause-cut : goal.returns-then-not-open-clause-cut
returns-then-not-open-clause-cut g c = λ t _.
    not_opened _ (g.D.Door.current c.args.door.now) _ _ _ _
    (c.requires.fresh t) (c.requires.history t) c.requires.settled (c.open.ensures.unchanged c.if-not-open.true) c.open.ensures.taken

pub converse_to_end-requires : goal.converse_to_end-requires
converse_to_end-requires g c = record {
  talk = λ t.
      opened_on _ (g.D.Door.current c.args.door.now) _ _ _ _
      (c.requires.fresh t) (c.requires.history t) c.requires.settled (c.open.ensures.put c.if-not-open.false) c.open.ensures.taken;
}

pub returns-then-not-converse_to_end-clause-cut : goal.returns-then-not-converse_to_end-clause-cut
returns-then-not-converse_to_end-clause-cut g c = λ t _.
    unclosed _ (g.D.Door.current c.converse_to_end.new.door) _ _ _ [] _ (c.converse_to_end.ensures.cut t) refl (sym (append-nil _))

pub returns-then-not-put_close-clause-cut : goal.returns-then-not-put_close-clause-cut
returns-then-not-put_close-clause-cut g c = λ t _.
    let more = c.put_close.ensures.taken in
    unclosed _ (g.D.Door.current c.converse_to_end.new.door) _ _ _ more.0 _
    (c.converse_to_end.ensures.cut t) (c.put_close.ensures.unchanged c.if-not-put_close.true) more.1

pub returns-then-not-drop_outcomes-clause-cut : goal.returns-then-not-drop_outcomes-clause-cut
returns-then-not-drop_outcomes-clause-cut g c = λ t _.
    let more = c.put_close.ensures.taken in
    let rest = c.drop_outcomes.ensures.taken in
    closed_cut _ (g.D.Door.current c.converse_to_end.new.door) _ _ (taken_by c.converse_to_end.new.line) (more.0 ++ rest.0) _
    (c.converse_to_end.ensures.cut t)
    (c.drop_outcomes.ensures.put ∙ c.put_close.ensures.put c.if-not-put_close.false)
    (rest.1 ∙ ap (λ y. y ++ rest.0) more.1 ∙ append_assoc (taken_by c.converse_to_end.new.line) more.0 rest.0)

pub returns-then-not-spend-clause-cut : goal.returns-then-not-spend-clause-cut
returns-then-not-spend-clause-cut g c = λ t _.
    let more = c.put_close.ensures.taken in
    let rest = c.drop_outcomes.ensures.taken in
    closed_cut _ (g.D.Door.current c.converse_to_end.new.door) _ _ (taken_by c.converse_to_end.new.line) (more.0 ++ rest.0) _
    (c.converse_to_end.ensures.cut t)
    (c.drop_outcomes.ensures.put ∙ c.put_close.ensures.put c.if-not-put_close.false)
    (rest.1 ∙ ap (λ y. y ++ rest.0) more.1 ∙ append_assoc (taken_by c.converse_to_end.new.line) more.0 rest.0)

pub returns-clause-history : goal.returns-clause-history
returns-clause-history g c = λ t _.
    let more = c.put_close.ensures.taken in
    let rest = c.drop_outcomes.ensures.taken in
    rw (c.leave.ensures.ended t)
    (left_on _ (g.D.Door.current c.converse_to_end.new.door) _ _ (taken_by c.converse_to_end.new.line) (more.0 ++ rest.0) _
    (c.converse_to_end.ensures.can_close t c.if-not-converse_to_end.false)
    (c.drop_outcomes.ensures.put ∙ c.put_close.ensures.put c.if-not-put_close.false)
    (rest.1 ∙ ap (λ y. y ++ rest.0) more.1 ∙ append_assoc (taken_by c.converse_to_end.new.line) more.0 rest.0)
    (c.drop_outcomes.ensures.settled c.if-not-drop_outcomes.false))

pub returns-then-not-open-clause-stamps : goal.returns-then-not-open-clause-stamps
returns-then-not-open-clause-stamps g c = stamps_still _ _ _ _ c.open.ensures.answers (λ _. refl) (c.open.ensures.unchanged c.if-not-open.true)

pub returns-then-not-converse_to_end-clause-stamps : goal.returns-then-not-converse_to_end-clause-stamps
returns-then-not-converse_to_end-clause-stamps g c = stamps_both _ _ _ _ _ (no_stamp _ _ _ _ _ _ _ _ c.open.ensures.answers (c.open.ensures.put c.if-not-open.false) refl refl) c.converse_to_end.ensures.stamps

pub returns-then-not-put_close-clause-stamps : goal.returns-then-not-put_close-clause-stamps
returns-then-not-put_close-clause-stamps g c = stamps_both _ _ _ _ _ (stamps_both _ _ _ _ _ (no_stamp _ _ _ _ _ _ _ _ c.open.ensures.answers (c.open.ensures.put c.if-not-open.false) refl refl) c.converse_to_end.ensures.stamps)
    (stamps_still _ _ _ _ c.put_close.ensures.answers (λ _. refl) (c.put_close.ensures.unchanged c.if-not-put_close.true))

pub returns-then-not-drop_outcomes-clause-stamps : goal.returns-then-not-drop_outcomes-clause-stamps
returns-then-not-drop_outcomes-clause-stamps g c = stamps_both _ _ _ _ _ (stamps_both _ _ _ _ _ (no_stamp _ _ _ _ _ _ _ _ c.open.ensures.answers (c.open.ensures.put c.if-not-open.false) refl refl) c.converse_to_end.ensures.stamps)
    (stamps_both _ _ _ _ _ (no_stamp _ _ _ _ _ _ _ _ c.put_close.ensures.answers (c.put_close.ensures.put c.if-not-put_close.false) refl refl) (stamps_still _ _ _ _ c.drop_outcomes.ensures.answers (λ _. refl) c.drop_outcomes.ensures.put))

pub returns-then-not-spend-clause-stamps : goal.returns-then-not-spend-clause-stamps
returns-then-not-spend-clause-stamps g c = stamps_both _ _ _ _ _ (stamps_both _ _ _ _ _ (no_stamp _ _ _ _ _ _ _ _ c.open.ensures.answers (c.open.ensures.put c.if-not-open.false) refl refl) c.converse_to_end.ensures.stamps)
    (stamps_both _ _ _ _ _ (no_stamp _ _ _ _ _ _ _ _ c.put_close.ensures.answers (c.put_close.ensures.put c.if-not-put_close.false) refl refl) (stamps_still _ _ _ _ c.drop_outcomes.ensures.answers (λ _. refl) c.drop_outcomes.ensures.put))

pub returns-clause-stamps : goal.returns-clause-stamps
returns-clause-stamps g c = stamps_both _ _ _ _ _ (stamps_both _ _ _ _ _ (no_stamp _ _ _ _ _ _ _ _ c.open.ensures.answers (c.open.ensures.put c.if-not-open.false) refl refl) c.converse_to_end.ensures.stamps)
    (stamps_both _ _ _ _ _ (no_stamp _ _ _ _ _ _ _ _ c.put_close.ensures.answers (c.put_close.ensures.put c.if-not-put_close.false) refl refl) (stamps_still _ _ _ _ c.drop_outcomes.ensures.answers (λ _. refl) c.drop_outcomes.ensures.put))
