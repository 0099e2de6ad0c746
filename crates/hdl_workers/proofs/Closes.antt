-- How a conversation begins and ends.
use Rattle.std.proofs.Common.{◌≡◌, inl, inr, ◌+◌, List, [], ◌∷◌, ◌++◌, length, refl, ap, sym, append_assoc, append-nil, length-append, ◌∙◌, arith, None}
use Rattle.std.proofs.lemmas.List.{map-append}
use Rattle.std.proofs.lemmas.List.Concat.{flat_map-append}
use Rattle.std.specs.List.{flat_map}
use Rattle.hdl_events.specs.declared.Outcome.{Outcome}
use Rattle.hdl_events.specs.declared.What.TheVariants.{Open, Close}
use Rattle.hdl_frame.specs.Frames.{BeginsWithFrame, fault_at}
use Rattle.hdl_frame.proofs.FrameLemmas.{none_short}
use Rattle.hdl_workers.specs.Octets.{octets_of}
use Rattle.hdl_workers.specs.declared.item.Item.{Item}
use Rattle.hdl_workers.specs.declared.item.Item.TheVariants.{Event}
use Rattle.hdl_workers.specs.Door.{Connection, fresh}
use Rattle.hdl_workers.specs.Sign.{sign_of, signs_of}
use Rattle.hdl_workers.specs.Talk.{SomeFrames, AnyBeginning, History, Underway, CutOff, CanClose, Waiting}
use Rattle.hdl_workers.proofs.Talks.{history_more}

-- nothing was read
no_frame_in_nothing : BeginsWithFrame [] → ⊥
no_frame_in_nothing = none_short [] (omega arith)

no_fault_in_nothing : fault_at [] ≡ None
unfolding fault_at
no_fault_in_nothing = refl

pub opened_on : (cs : List Connection) (c : Connection) (items items' : List Item) (os os' : List Outcome) → c ≡ fresh → History cs items os → length os ≡ length items → items' ≡ items ++ Event Open ∷ [] → os' ≡ os → Underway (Waiting []) cs c items' os'
opened_on cs c items items' os os' is h l e f =
    rw is (
      items,
      Event Open ∷ [],
      os,
      [],
      e,
      f ∙ sym (append-nil os),
      h,
      l,
      (([], refl, (λ k d below. absurd (omega arith)), refl), no_frame_in_nothing, no_fault_in_nothing),
      refl,
    )

pub not_opened : (cs : List Connection) (c : Connection) (items items' : List Item) (os os' : List Outcome) → c ≡ fresh → History cs items os → length os ≡ length items → items' ≡ items → os' ≡ os → CutOff AnyBeginning cs c items' os'
not_opened cs c items items' os os' is h l e f =
    rw is (
      items,
      [],
      os,
      [],
      e ∙ sym (append-nil items),
      f ∙ sym (append-nil os),
      h,
      l,
      inl refl,
      ([], refl),
    )

-- more outcomes were taken, which went nowhere
pub unclosed : (cs : List Connection) (c : Connection) (items items' : List Item) (os more os' : List Outcome) → CutOff SomeFrames cs c items os → items' ≡ items → os' ≡ os ++ more → CutOff AnyBeginning cs c items' os'
unclosed cs c items items' os more os' (earlier, now, settled, answers, i, o, h, l, p, (x, w)) e f = (
  earlier,
  now,
  settled,
  answers ++ more,
  e ∙ i,
  f ∙ ap (λ y. y ++ more) o ∙ append_assoc settled answers more,
  h,
  l,
  inr (inl p),
  (
    x ++ flat_map octets_of more,
    sym (append_assoc c.written x (flat_map octets_of more)) ∙ ap (λ y. y ++ flat_map octets_of more) w ∙ sym (flat_map-append octets_of answers more),
  ),
)

pub closed_cut : (cs : List Connection) (c : Connection) (items items' : List Item) (os more os' : List Outcome) → CutOff SomeFrames cs c items os → items' ≡ items ++ Event Close ∷ [] → os' ≡ os ++ more → CutOff AnyBeginning cs c items' os'
closed_cut cs c items items' os more os' (earlier, now, settled, answers, i, o, h, l, p, (x, w)) e f = (
  earlier,
  now ++ Event Close ∷ [],
  settled,
  answers ++ more,
  e ∙ ap (λ y. y ++ Event Close ∷ []) i ∙ append_assoc earlier now (Event Close ∷ []),
  f ∙ ap (λ y. y ++ more) o ∙ append_assoc settled answers more,
  h,
  l,
  inr (inr (signs_of now, p, map-append sign_of now (Event Close ∷ []))),
  (
    x ++ flat_map octets_of more,
    sym (append_assoc c.written x (flat_map octets_of more)) ∙ ap (λ y. y ++ flat_map octets_of more) w ∙ sym (flat_map-append octets_of answers more),
  ),
)

pub left_on : (cs : List Connection) (c : Connection) (items items' : List Item) (os more os' : List Outcome) → CanClose cs c items os → items' ≡ items ++ Event Close ∷ [] → os' ≡ os ++ more → length os' ≡ length items' → History (cs ++ c ∷ []) items' os'
left_on cs c items items' os more os' (inl ((earlier, now, settled, answers, i, o, h, l, p, w), m)) e f n =
    let i' : items' ≡ earlier ++ (now ++ Event Close ∷ []) = e ∙ ap (λ y. y ++ Event Close ∷ []) i ∙ append_assoc earlier now (Event Close ∷ []) in
    let o' : os' ≡ settled ++ (answers ++ more) = f ∙ ap (λ y. y ++ more) o ∙ append_assoc settled answers more in
    let k1 : length items' ≡ length items + 1 = ap length e ∙ length-append items (Event Close ∷ []) in
    let k2 : length os' ≡ length os + length more = ap length f ∙ length-append os more in
    let k3 : length items' ≡ length earlier + length (now ++ Event Close ∷ []) = ap length i' ∙ length-append earlier (now ++ Event Close ∷ []) in
    let k4 : length os' ≡ length settled + length (answers ++ more) = ap length o' ∙ length-append settled (answers ++ more) in
    rw (i', o')
    (history_more cs earlier settled c (now ++ Event Close ∷ []) (answers ++ more) h (
      signs_of now,
      answers,
      more,
      map-append sign_of now (Event Close ∷ []),
      refl,
      omega arith,
      inl (p, w, omega arith),
    ))
left_on cs c items items' os more os' (inr (b, (earlier, now, settled, answers, i, o, h, l, p, w))) e f n =
    let i' : items' ≡ earlier ++ (now ++ Event Close ∷ []) = e ∙ ap (λ y. y ++ Event Close ∷ []) i ∙ append_assoc earlier now (Event Close ∷ []) in
    let o' : os' ≡ settled ++ (answers ++ more) = f ∙ ap (λ y. y ++ more) o ∙ append_assoc settled answers more in
    let k3 : length items' ≡ length earlier + length (now ++ Event Close ∷ []) = ap length i' ∙ length-append earlier (now ++ Event Close ∷ []) in
    let k4 : length os' ≡ length settled + length (answers ++ more) = ap length o' ∙ length-append settled (answers ++ more) in
    rw (i', o')
    (history_more cs earlier settled c (now ++ Event Close ∷ []) (answers ++ more) h (
      signs_of now,
      answers,
      more,
      map-append sign_of now (Event Close ∷ []),
      refl,
      omega arith,
      inr (b, p, w),
    ))
