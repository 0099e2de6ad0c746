-- A conversation grows by what is heard, put and written.
use Rattle.std.proofs.Common.{◌≡◌, inl, inr, ℕ, Option, None, List, [], ◌∷◌, ◌++◌, refl, ap, sym, subst, append_assoc, append-nil, ◌∙◌}
use Rattle.std.proofs.lemmas.List.{map-append}
use Rattle.std.proofs.lemmas.List.Elements.{All-push}
use Rattle.std.proofs.lemmas.List.Folds.{concat-append}
use Rattle.std.proofs.lemmas.List.Concat.{flat_map-append}
use Rattle.std.specs.List.{flat_map, concat}
use Rattle.hdl_events.specs.declared.Outcome.{Outcome}
use Rattle.hdl_events.specs.declared.What.TheVariants.{Bad}
use Rattle.hdl_frame.specs.declared.envelope.FrameFault.{FrameFault}
use Rattle.hdl_frame.specs.Frames.{IsFrame, BeginsWithFrame, fault_at}
use Rattle.hdl_workers.specs.declared.item.Item.{Item}
use Rattle.hdl_workers.specs.declared.item.Item.TheVariants.{Event}
use Rattle.hdl_workers.specs.Octets.{octets_of}
use Rattle.hdl_workers.specs.Door.{Connection, hear}
use Rattle.hdl_workers.specs.WorkerLane.{Relayed, RelayedPart}
use Rattle.hdl_workers.specs.Sign.{Sign, opened, framed, faulty, sign_of, signs_of, PutOne}
use Rattle.hdl_workers.specs.Talk.{fault_signs, FramesSoFar, AllFrames, SomeFrames, Ended, History, Underway, CutOff, Waiting}

-- frames
pub frame_next : (f rest read : List ℕ) (signs : List Sign) → FramesSoFar (f ++ rest) read signs → IsFrame f → FramesSoFar rest read (signs ++ framed 0 f ∷ [])
frame_next f rest read signs (frames, cut, all, shown) is = (
  frames ++ f ∷ [],
  cut ∙ sym (append_assoc (concat frames) f rest) ∙ ap (λ w. w ++ rest) (ap (λ w. concat frames ++ w) (sym (append-nil f)) ∙ sym (concat-append frames (f ∷ []))),
  All-push IsFrame frames f all is,
  ap (λ w. w ++ framed 0 f ∷ []) shown ∙ ap (λ w. opened ∷ w) (sym (map-append (framed 0) frames (f ∷ []))),
)

pub frames_heard : (rest read o : List ℕ) (signs : List Sign) → FramesSoFar rest read signs → FramesSoFar (rest ++ o) (read ++ o) signs
frames_heard rest read o signs (frames, cut, all, shown) =
    (frames, ap (λ w. w ++ o) cut ∙ append_assoc (concat frames) rest o, all, shown)

pub all_frames : (rest read : List ℕ) (signs : List Sign) → FramesSoFar rest read signs → (BeginsWithFrame rest → ⊥) → AllFrames read (signs ++ fault_signs (fault_at rest))
all_frames rest read signs (frames, cut, all, shown) none =
    (frames, rest, fault_at rest, record { whole = cut; each = all; ends = none; named = refl }, ap (λ w. w ++ fault_signs (fault_at rest)) shown)

pub all_waiting : (rest read : List ℕ) (signs : List Sign) → Waiting rest read signs → AllFrames read signs
all_waiting rest read signs (far, none, no_fault) =
    rw (← append-nil signs) (subst (λ (f : Option FrameFault). AllFrames read (signs ++ fault_signs f)) no_fault (all_frames rest read signs far none))

-- conversations
module _ (P Q : List ℕ → List Sign → Type 0) (cs : List Connection) where
  pub under_relay : (c d : Connection) (items : List Item) (os ps : List Outcome) → Underway P cs c items os → Relayed os c ps d → Underway P cs d items ps
  under_relay c d items os ps (earlier, now, settled, answers, i, o, h, l, p, w) (more, o', w', r', b') = (
    earlier,
    now,
    settled,
    answers ++ more,
    i,
    o' ∙ ap (λ x. x ++ more) o ∙ append_assoc settled answers more,
    h,
    l,
    subst (λ (x : List ℕ). P x (signs_of now)) (sym r') p,
    w' ∙ ap (λ x. x ++ flat_map octets_of more) w ∙ sym (flat_map-append octets_of answers more),
  )

  pub cut_relay : (c d : Connection) (items : List Item) (os ps : List Outcome) → Underway P cs c items os → RelayedPart os c ps d → CutOff P cs d items ps
  cut_relay c d items os ps (earlier, now, settled, answers, i, o, h, l, p, w) (more, o', (x, w'), r') = (
    earlier,
    now,
    settled,
    answers ++ more,
    i,
    o' ∙ ap (λ y. y ++ more) o ∙ append_assoc settled answers more,
    h,
    l,
    subst (λ (y : List ℕ). P y (signs_of now)) (sym r') p,
    (x, w' ∙ ap (λ y. y ++ flat_map octets_of more) w ∙ sym (flat_map-append octets_of answers more)),
  )

  pub under_put : (c : Connection) (items items' : List Item) (os : List Outcome) (s : Sign) → Underway P cs c items os → PutOne s items items' → ((signs : List Sign) → P c.read signs → Q c.read (signs ++ s ∷ [])) → Underway Q cs c items' os
  under_put c items items' os s (earlier, now, settled, answers, i, o, h, l, p, w) (item, e, shows) turn = (
    earlier,
    now ++ item ∷ [],
    settled,
    answers,
    e ∙ ap (λ x. x ++ item ∷ []) i ∙ append_assoc earlier now (item ∷ []),
    o,
    h,
    l,
    subst (λ (x : List Sign). Q c.read x) (ap (λ y. signs_of now ++ y ∷ []) (sym shows) ∙ sym (map-append sign_of now (item ∷ []))) (turn (signs_of now) p),
    w,
  )

  pub under_same : (c : Connection) (items : List Item) (os : List Outcome) → Underway P cs c items os → ((signs : List Sign) → P c.read signs → Q c.read signs) → Underway Q cs c items os
  under_same c items os (earlier, now, settled, answers, i, o, h, l, p, w) turn =
      (earlier, now, settled, answers, i, o, h, l, turn (signs_of now) p, w)

  pub cut_same : (c : Connection) (items : List Item) (os : List Outcome) → CutOff P cs c items os → ((signs : List Sign) → P c.read signs → Q c.read signs) → CutOff Q cs c items os
  cut_same c items os (earlier, now, settled, answers, i, o, h, l, p, w) turn =
      (earlier, now, settled, answers, i, o, h, l, turn (signs_of now) p, w)

  pub cut_of : (c : Connection) (items : List Item) (os : List Outcome) → Underway P cs c items os → CutOff P cs c items os
  cut_of c items os (earlier, now, settled, answers, i, o, h, l, p, w) =
      (earlier, now, settled, answers, i, o, h, l, p, ([], append-nil c.written ∙ w))

  pub under_hear : (c d : Connection) (octets : List ℕ) (items : List Item) (os : List Outcome) → Underway P cs c items os → d ≡ hear octets c → ((signs : List Sign) → P c.read signs → Q (c.read ++ octets) signs) → Underway Q cs d items os
  under_hear c d octets items os (earlier, now, settled, answers, i, o, h, l, p, w) e turn =
      rw e (earlier, now, settled, answers, i, o, h, l, turn (signs_of now) p, w)

-- connections that were left
pub history_more : (cs : List Connection) (items : List Item) (os : List Outcome) (c : Connection) (seg : List Item) (ps : List Outcome) → History cs items os → Ended c seg ps → History (cs ++ c ∷ []) (items ++ seg) (os ++ ps)
history_more [] items os c seg ps (i, o) ended =
    (seg, [], ps, [], ap (λ x. x ++ seg) i ∙ sym (append-nil seg), ap (λ x. x ++ ps) o ∙ sym (append-nil ps), ended, (refl, refl))
history_more (d ∷ cs) items os c seg ps (first, others, answers, later, i, o, e, h) ended = (
  first,
  others ++ seg,
  answers,
  later ++ ps,
  ap (λ x. x ++ seg) i ∙ append_assoc first others seg,
  ap (λ x. x ++ ps) o ∙ append_assoc answers later ps,
  e,
  history_more cs others later c seg ps h ended,
)

-- one step of the worker, which relays outcomes as it puts
pub framed_on : (cs cs' : List Connection) (c d : Connection) (items items' : List Item) (os ps : List Outcome) (old new f : List ℕ) → Underway (FramesSoFar old) cs c items os → old ≡ f ++ new → IsFrame f → PutOne (framed 0 f) items items' → Relayed os c ps d → cs' ≡ cs → Underway (FramesSoFar new) cs' d items' ps
framed_on cs cs' c d items items' os ps old new f u e is put r same =
    let u' : Underway (FramesSoFar (f ++ new)) cs c items os = rw (← e) u in
    rw same (under_relay (FramesSoFar new) (FramesSoFar new) cs c d items' os ps
    (under_put (FramesSoFar (f ++ new)) (FramesSoFar new) cs c items items' os (framed 0 f) u' put (λ signs p. frame_next f new c.read signs p is)) r)

pub some_cut : (cs cs' : List Connection) (c d : Connection) (items items' : List Item) (os ps : List Outcome) (rest : List ℕ) → Underway (FramesSoFar rest) cs c items os → items' ≡ items → RelayedPart os c ps d → cs' ≡ cs → CutOff SomeFrames cs' d items' ps
some_cut cs cs' c d items items' os ps rest u e r same =
    rw (same, e) (cut_same (FramesSoFar rest) SomeFrames cs d items ps (cut_relay (FramesSoFar rest) (FramesSoFar rest) cs c d items os ps u r) (λ signs p. inl (rest, p)))

pub fault_on : (cs cs' : List Connection) (c d : Connection) (items items' : List Item) (os ps : List Outcome) (rest : List ℕ) (a b : ℕ) → Underway (FramesSoFar rest) cs c items os → (BeginsWithFrame rest → ⊥) → fault_signs (fault_at rest) ≡ faulty a b ∷ [] → items' ≡ items ++ Event (Bad a b) ∷ [] → Relayed os c ps d → cs' ≡ cs → Underway AllFrames cs' d items' ps
fault_on cs cs' c d items items' os ps rest a b u none fault e r same =
    rw same (under_relay AllFrames AllFrames cs c d items' os ps
    (under_put (FramesSoFar rest) AllFrames cs c items items' os (faulty a b) u (Event (Bad a b), e, refl)
    (λ signs p. subst (λ (x : List Sign). AllFrames c.read (signs ++ x)) fault (all_frames rest c.read signs p none))) r)

pub all_cut : (cs : List Connection) (c : Connection) (items : List Item) (os : List Outcome) → Underway AllFrames cs c items os → CutOff SomeFrames cs c items os
all_cut cs c items os u = cut_same AllFrames SomeFrames cs c items os (cut_of AllFrames AllFrames cs c items os u) (λ signs p. inr p)

pub waiting_on : (cs cs' : List Connection) (c d : Connection) (items items' : List Item) (os ps : List Outcome) (rest : List ℕ) → Underway (Waiting rest) cs c items os → items' ≡ items → Relayed os c ps d → cs' ≡ cs → Underway (Waiting rest) cs' d items' ps
waiting_on cs cs' c d items items' os ps rest u e r same =
    rw (same, e) (under_relay (Waiting rest) (Waiting rest) cs c d items os ps u r)

pub all_on : (cs cs' : List Connection) (c d : Connection) (items items' : List Item) (os ps : List Outcome) → Underway AllFrames cs c items os → items' ≡ items → Relayed os c ps d → cs' ≡ cs → Underway AllFrames cs' d items' ps
all_on cs cs' c d items items' os ps u e r same =
    rw (same, e) (under_relay AllFrames AllFrames cs c d items os ps u r)

pub waiting_cut : (cs cs' : List Connection) (c d : Connection) (items items' : List Item) (os ps : List Outcome) (rest : List ℕ) → Underway (Waiting rest) cs c items os → items' ≡ items → RelayedPart os c ps d → cs' ≡ cs → CutOff SomeFrames cs' d items' ps
waiting_cut cs cs' c d items items' os ps rest u e r same =
    rw (same, e) (cut_same (Waiting rest) SomeFrames cs d items ps (cut_relay (Waiting rest) (Waiting rest) cs c d items os ps u r) (λ signs p. inl (rest, p.0)))

pub all_relay_cut : (cs cs' : List Connection) (c d : Connection) (items items' : List Item) (os ps : List Outcome) → Underway AllFrames cs c items os → items' ≡ items → RelayedPart os c ps d → cs' ≡ cs → CutOff SomeFrames cs' d items' ps
all_relay_cut cs cs' c d items items' os ps u e r same =
    rw (same, e) (cut_same AllFrames SomeFrames cs d items ps (cut_relay AllFrames AllFrames cs c d items os ps u r) (λ signs p. inr p))

pub waiting_all : (cs : List Connection) (c : Connection) (items : List Item) (os : List Outcome) (rest : List ℕ) → Underway (Waiting rest) cs c items os → Underway AllFrames cs c items os
waiting_all cs c items os rest u =
    under_same (Waiting rest) AllFrames cs c items os u (λ signs p. all_waiting rest c.read signs p)

-- octets came, and the cutter has them
pub heard_on : (cs cs' : List Connection) (c d : Connection) (items : List Item) (os : List Outcome) (rest rest' octets : List ℕ) → Underway (Waiting rest) cs c items os → d ≡ hear octets c → rest' ≡ rest ++ octets → cs' ≡ cs → Underway (FramesSoFar rest') cs' d items os
heard_on cs cs' c d items os rest rest' octets u e f same =
    rw (same, f) (under_hear (Waiting rest) (FramesSoFar (rest ++ octets)) cs c d octets items os u e (λ signs p. frames_heard rest c.read octets signs p.0))

-- octets came, and the cutter may lack them
pub heard_cut : (cs cs' : List Connection) (c d : Connection) (items : List Item) (os : List Outcome) (rest octets : List ℕ) → Underway (Waiting rest) cs c items os → d.read ≡ c.read ++ octets → d.written ≡ c.written → cs' ≡ cs → CutOff SomeFrames cs' d items os
heard_cut cs cs' c d items os rest octets (earlier, now, settled, answers, i, o, h, l, p, w) read written same =
    rw same (
      earlier,
      now,
      settled,
      answers,
      i,
      o,
      h,
      l,
      subst (λ (x : List ℕ). SomeFrames x (signs_of now)) (sym read) (inl (rest ++ octets, frames_heard rest c.read octets (signs_of now) p.0)),
      ([], append-nil d.written ∙ written ∙ w),
    )

-- outcomes were relayed before the next frame
pub far_on : (cs cs' : List Connection) (c d : Connection) (items items' : List Item) (os ps : List Outcome) (rest : List ℕ) → Underway (FramesSoFar rest) cs c items os → items' ≡ items → Relayed os c ps d → cs' ≡ cs → Underway (FramesSoFar rest) cs' d items' ps
far_on cs cs' c d items items' os ps rest u e r same =
    rw (same, e) (under_relay (FramesSoFar rest) (FramesSoFar rest) cs c d items os ps u r)

-- and none stands next
pub far_waits : (cs : List Connection) (c : Connection) (items : List Item) (os : List Outcome) (rest rest' : List ℕ) → Underway (FramesSoFar rest) cs c items os → (BeginsWithFrame rest → ⊥) → fault_at rest ≡ None → rest' ≡ rest → Underway (Waiting rest') cs c items os
far_waits cs c items os rest rest' u none no_fault same =
    rw same (under_same (FramesSoFar rest) (Waiting rest) cs c items os u (λ signs p. (p, none, no_fault)))

-- nothing happened since
pub far_cut : (cs : List Connection) (c : Connection) (items : List Item) (os : List Outcome) (rest : List ℕ) → Underway (FramesSoFar rest) cs c items os → CutOff SomeFrames cs c items os
far_cut cs c items os rest u =
    cut_same (FramesSoFar rest) SomeFrames cs c items os (cut_of (FramesSoFar rest) (FramesSoFar rest) cs c items os u) (λ signs p. inl (rest, p))
