use Rattle.std.proofs.Common.{◌≡◌, [], ◌++◌, length, ap, subst, sym, ◌∙◌, inl, inr, arith, true, true≢false}
use Rattle.std.proofs.lemmas.List.{append-nil, append_assoc}
use Rattle.std.specs.List.{AllByRecursion, AllZip}
use Rattle.hdl_workers.specs.Ends.{AreDistinct}
use Rattle.hdl_core.specs.Machine.{Machine}
use Rattle.hdl_serve.specs.Rounds.{GaveEnd, IsServing}
use Rattle.hdl_serve.specs.Shared.{IsShared}
use Rattle.hdl_serve.proofs.Lanes.{serving_first, serving_beside, written_back, shared, still_distinct, turned, gave_end}
use Rattle.hdl_serve.proofs.serving.serve_shared.Goals.{then-loop-turns-test+else-not-have_ended, then-has_worked, else-has_worked, else-loop-turns-test}
use Rattle.hdl_serve.proofs.serving.serve_shared.Goals as goal

pub loop-turns-init : goal.loop-turns-init
loop-turns-init g c = (
  [],
  sym (append-nil _),
  subst (λ w. IsServing c.args.served.service.world c.args.served.lanes.items [] w c.args.served.lanes.items c.new-ended.result.items) (sym (ap (λ (m : Machine _). m.world) c.into_machine-machine.ensures))
      (serving_first c.args.served.service.world c.args.served.lanes.items _ c.requires c.new-ended.ensures.items),
)

pub loop-turns-preserved : goal.loop-turns-preserved
loop-turns-preserved g c =
    let world = c.args.served.service.world in
    let before = c.args.served.lanes.items in
    let is = c.loop-turns.invariant in
    let more = c.apply_remote_changes.ensures.beside in
    let beside = serving_beside world c.loop-turns.machine.world c.apply_remote_changes.new.machine.world before c.loop-turns.lanes.items is.0 more.0 c.loop-turns.ended.items is.2 more.2 in
    let lent = subst (λ lanes. IsServing world before (is.0 ++ more.0) c.apply_remote_changes.new.machine.world lanes c.loop-turns.ended.items) (sym c.as_mut_slice.ensures.value) beside in
    let back = written_back c.loop-turns.lanes.items c.round-served.new.lanes c.loop-turns.lanes.len c.loop-turns.lanes.ok.0 (c.round-served.auto.lanes ∙ ap length c.as_mut_slice.ensures.value) in (
      is.0 ++ more.0,
      more.1 ∙ ap (λ changes. changes ++ more.0) is.1 ∙ append_assoc _ is.0 more.0,
      subst (λ lanes. IsServing world before (is.0 ++ more.0) c.round-served.new.machine.world lanes c.round-served.new.ended.items) (sym back) (c.round-served.ensures.serving world before (is.0 ++ more.0) lent),
    )

pub returns-in_default-clause-shared : goal.returns-in_default-clause-shared
returns-in_default-clause-shared g c =
    let world = c.args.served.service.world in
    let before = c.args.served.lanes.items in
    let known = g.N.RemoteChanges.taken c.args.news.now in
    let later = g.N.RemoteChanges.taken c.apply_remote_changes.new.news in
    let is = c.loop-turns.invariant in
    let more = c.apply_remote_changes.ensures.beside in
    let beside = serving_beside world c.loop-turns.machine.world c.apply_remote_changes.new.machine.world before c.loop-turns.lanes.items is.0 more.0 c.loop-turns.ended.items is.2 more.2 in
    subst (λ w. IsShared world before known w c.end_with.result.served.lanes.items later) (sym c.end_with.ensures.world)
    (subst (λ lanes. IsShared world before known c.apply_remote_changes.new.machine.world lanes later) (sym c.end_with.ensures.lanes)
    (shared world c.apply_remote_changes.new.machine.world before c.loop-turns.lanes.items (is.0 ++ more.0) known later c.loop-turns.ended.items (more.1 ∙ ap (λ changes. changes ++ more.0) is.1 ∙ append_assoc _ is.0 more.0) beside))

pub returns-in_default-clause-distinct : goal.returns-in_default-clause-distinct
returns-in_default-clause-distinct g c = subst AreDistinct (sym c.end_with.ensures.lanes) (still_distinct _ _ _ _ _ _ c.loop-turns.invariant.2)

pub returns-clause-shared : goal.returns-clause-shared
returns-clause-shared g c =
    let world = c.args.served.service.world in
    let before = c.args.served.lanes.items in
    let known = g.N.RemoteChanges.taken c.args.news.now in
    let later = g.N.RemoteChanges.taken c.loop-turns.news in
    let is = c.loop-turns.invariant in
    subst (λ w. IsShared world before known w c.end_with-2.result.served.lanes.items later) (sym c.end_with-2.ensures.world)
    (subst (λ lanes. IsShared world before known c.loop-turns.machine.world lanes later) (sym c.end_with-2.ensures.lanes)
    (shared world c.loop-turns.machine.world before c.loop-turns.lanes.items is.0 known later c.loop-turns.ended.items is.1 is.2))

pub returns-clause-distinct : goal.returns-clause-distinct
returns-clause-distinct g c = subst AreDistinct (sym c.end_with-2.ensures.lanes) (still_distinct _ _ _ _ _ _ c.loop-turns.invariant.2)

pub returns-clause-over : goal.returns-clause-over
returns-clause-over g c = λ over. elim c.loop-turns-test.branch [
  | then-loop-turns-test+else-not-have_ended w ↦ elim w.if-has_worked.branch [
    | then-has_worked v ↦ absurd (true≢false (sym v.if-has_worked.true ∙ sym v.value-is ∙ w.if-not-have_ended.false))
    | else-has_worked v ↦
        let all = v.have_ended.ensures (turned _ _ v.value-is w.if-not-have_ended.false) in
        let flags = subst (λ flags. (length flags ≡ v.len.result) × AllByRecursion (λ e. e ≡ true) flags) v.as_slice.ensures.value all in
        inr (subst (λ lanes. AllZip GaveEnd c.args.served.lanes.items lanes) (sym c.end_with-2.ensures.lanes)
        (gave_end _ _ _ _ _ c.loop-turns.ended.items c.loop-turns.invariant.2 (flags.0 ∙ v.len.ensures ∙ c.loop-turns.lanes.ok.0) flags.1))
  ]
  | else-loop-turns-test w ↦ inl (c.end_with-2.ensures.turns ∙ omega (arith, w.loop-turns-test.false))
]
