-- What is handed out, read, said and written over a list of steps.
use Rattle.std.proofs.Common.{◌≡◌, ℕ, List, [], ◌∷◌, ◌++◌, All, Option, refl, sym, ap, ◌∙◌, append_assoc}
use Rattle.std.specs.List.{concat}
use mathlib.Core.List.{IsPrefix}
use Rattle.std.proofs.lemmas.List.{append-nil}
use Rattle.std.proofs.lemmas.List.Elements.{All-nil, All-cons, All-head, All-tail}
use Rattle.hdl_frame.specs.declared.envelope.FrameFault.{FrameFault}
use Rattle.hdl_frame.specs.Frames.{IsFrame, BeginsWithFrame, fault_at, IsCut}
use Rattle.hdl_frame.proofs.CutLemmas.{all_rest, frame_first, one_cut_lem, each_is_cut_lem}
use Rattle.hdl_overflow_lane.specs.ConnectionBuffers.{Talking, Step, reads, hands, is_observed, says, writes, fresh, TakesAll, all_read, all_handed, all_said, all_written}

-- what is left of a connection is what it had and what was read, without what was handed out
pub rest_after : (steps : List Step) (t u : Talking) → TakesAll t steps u
    → (t.rest ++ all_read steps ≡ concat (all_handed steps) ++ u.rest) × All IsFrame (all_handed steps)
rest_after [] t u is = (append-nil t.rest ∙ ap (λ (v : Talking). v.rest) (sym is), All-nil IsFrame)
rest_after (reads octets ∷ ss) t u (v, step, later) =
    let below = rest_after ss v u later in
    let e : v.rest ≡ t.rest ++ octets = ap (λ (w : Talking). w.rest) step.1 in
    (sym (append_assoc t.rest octets (all_read ss)) ∙ ap (λ (r : List ℕ). r ++ all_read ss) (sym e) ∙ below.0, below.1)
rest_after (hands frame ∷ ss) t u (v, step, later) =
    let below = rest_after ss v u later in
    let e : t.rest ≡ frame ++ v.rest = step.1 in (
      ap (λ (r : List ℕ). r ++ all_read ss) e ∙ append_assoc frame v.rest (all_read ss) ∙ ap (λ (r : List ℕ). frame ++ r) below.0
          ∙ sym (append_assoc frame (concat (all_handed ss)) u.rest),
      All-cons IsFrame frame (all_handed ss) step.0 below.1,
    )
rest_after (is_observed fault ∷ ss) t u (v, step, later) =
    let below = rest_after ss v u later in
    (ap (λ (w : Talking). w.rest ++ all_read ss) (sym step.1) ∙ below.0, below.1)
rest_after (says octets ∷ ss) t u (v, step, later) =
    let below = rest_after ss v u later in
    (ap (λ (w : Talking). w.rest ++ all_read ss) (sym step) ∙ below.0, below.1)
rest_after (writes octets ∷ ss) t u (v, step, later) =
    let below = rest_after ss v u later in
    (ap (λ (r : List ℕ). r ++ all_read ss) (sym step.1) ∙ below.0, below.1)

-- frames before octets that are cut stand before their frames
frames_first : (hs : List (List ℕ)) (s more : List ℕ) (frames : List (List ℕ)) (rest : List ℕ) (fault : Option FrameFault)
    → All IsFrame hs → s ≡ concat hs ++ more → IsCut more frames rest fault → IsCut s (hs ++ frames) rest fault
frames_first [] s more frames rest fault each e cut = rw e cut
frames_first (h ∷ hs) s more frames rest fault each e cut =
    let below = frames_first hs (concat hs ++ more) more frames rest fault (All-tail IsFrame h hs each) refl cut in
    frame_first s h (concat hs ++ more) (hs ++ frames) rest fault (All-head IsFrame h hs each) (e ∙ append_assoc h (concat hs) more) below

-- the cut of what was read begins with what was handed out, and goes on with the frames of what is left
handed_first : (steps : List Step) (t : Talking) (frames left : List (List ℕ)) (rest last : List ℕ) (fault after : Option FrameFault)
    → TakesAll fresh steps t → IsCut (all_read steps) frames rest fault → IsCut t.rest left last after → frames ≡ all_handed steps ++ left
handed_first steps t frames left rest last fault after run cut end =
    let so = rest_after steps fresh t run in
    let other = frames_first (all_handed steps) (all_read steps) t.rest left last after so.1 so.0 end in
    (one_cut_lem (all_read steps) frames (all_handed steps ++ left) rest last fault after cut other).0

pub hands_in_order_lem : (steps : List Step) (t : Talking) (frames : List (List ℕ)) (rest : List ℕ) (fault : Option FrameFault)
    → TakesAll fresh steps t → IsCut (all_read steps) frames rest fault → IsPrefix (all_handed steps) frames
hands_in_order_lem steps t frames rest fault run cut =
    let end = each_is_cut_lem t.rest in
    (end.0, sym (handed_first steps t frames end.0 rest end.1 fault end.2 run cut end.3))

pub hands_all_lem : (steps : List Step) (t : Talking) (frames : List (List ℕ)) (rest : List ℕ) (fault : Option FrameFault)
    → TakesAll fresh steps t → (BeginsWithFrame t.rest → ⊥) → IsCut (all_read steps) frames rest fault → all_handed steps ≡ frames
hands_all_lem steps t frames rest fault run none cut =
    sym (handed_first steps t frames [] rest t.rest fault (fault_at t.rest) run cut (all_rest t.rest none) ∙ append-nil (all_handed steps))

-- what was owed and what was said are what was written and what is owed
owed_after : (steps : List Step) (t u : Talking) → TakesAll t steps u → t.owed ++ all_said steps ≡ all_written steps ++ u.owed
owed_after [] t u is = append-nil t.owed ∙ ap (λ (v : Talking). v.owed) (sym is)
owed_after (reads octets ∷ ss) t u (v, step, later) =
    ap (λ (w : Talking). w.owed ++ all_said ss) (sym step.1) ∙ owed_after ss v u later
owed_after (hands frame ∷ ss) t u (v, step, later) =
    ap (λ (o : List ℕ). o ++ all_said ss) (sym step.4) ∙ owed_after ss v u later
owed_after (is_observed fault ∷ ss) t u (v, step, later) =
    ap (λ (w : Talking). w.owed ++ all_said ss) (sym step.1) ∙ owed_after ss v u later
owed_after (says octets ∷ ss) t u (v, step, later) =
    sym (append_assoc t.owed octets (all_said ss)) ∙ ap (λ (w : Talking). w.owed ++ all_said ss) (sym step) ∙ owed_after ss v u later
owed_after (writes octets ∷ ss) t u (v, step, later) =
    ap (λ (o : List ℕ). o ++ all_said ss) step.0 ∙ append_assoc octets v.owed (all_said ss) ∙ ap (λ (o : List ℕ). octets ++ o) (owed_after ss v u later)
    ∙ sym (append_assoc octets (all_written ss) u.owed)

pub writes_in_order_lem : (steps : List Step) (t : Talking) → TakesAll fresh steps t → all_said steps ≡ all_written steps ++ t.owed
writes_in_order_lem steps t run = owed_after steps fresh t run
