-- A stream has one cut, and is cut in its parts as in the whole.
use Rattle.std.proofs.Common.{◌≡◌, ℕ, zero, suc, ◌+◌, ◌≤◌, List, [], ◌∷◌, ◌++◌, length, take, drop, Option, Some, None, refl, sym, ap, ◌∙◌, arith, append_assoc, inl, inr, ◌⊎◌}
use Rattle.std.specs.List.{concat}
use Rattle.std.proofs.lemmas.Bool.{cases_lt}
use Rattle.std.proofs.lemmas.List.{length-append, length-take, take-append-drop, append-nil}
use Rattle.std.proofs.lemmas.List.Folds.{concat-append}
use Rattle.std.proofs.lemmas.List.Elements.{All-nil, All-cons, All-head, All-tail, All-append}
use Rattle.hdl_frame.specs.declared.envelope.FrameFault.{FrameFault}
use Rattle.hdl_frame.specs.Envelope.{envelope_at, fault_of, payload_len}
use Rattle.hdl_frame.specs.Frames.{IsFrame, BeginsWithFrame, fault_at, IsCut, IsCutInTurn}
use Rattle.hdl_frame.proofs.FrameLemmas.{one_front, front_is_frame, none_short, none_faulty, fault_at_whole}

-- octets that no frame begins are all rest
pub all_rest : (s : List ℕ) → (BeginsWithFrame s → ⊥) → IsCut s [] s (fault_at s)
all_rest s none = record { whole = refl; each = All-nil IsFrame; ends = none; named = refl }

-- a frame before a stream that is cut is the first of its frames
pub frame_first : (s f t : List ℕ) (frames : List (List ℕ)) (rest : List ℕ) (fault : Option FrameFault) → IsFrame f → s ≡ f ++ t → IsCut t frames rest fault → IsCut s (f ∷ frames) rest fault
frame_first s f t frames rest fault frame e cut = record {
  whole = e ∙ ap (λ (z : List ℕ). f ++ z) cut.whole ∙ sym (append_assoc f (concat frames) rest);
  each = All-cons IsFrame f frames frame cut.each;
  ends = cut.ends;
  named = cut.named;
}

-- the cut without its first frame
after_first : (s f : List ℕ) (frames : List (List ℕ)) (rest : List ℕ) (fault : Option FrameFault) → IsCut s (f ∷ frames) rest fault
    → IsFrame f × (s ≡ f ++ (concat frames ++ rest)) × IsCut (concat frames ++ rest) frames rest fault
after_first s f frames rest fault cut = (
  All-head IsFrame f frames cut.each,
  cut.whole ∙ append_assoc f (concat frames) rest,
  record { whole = refl; each = All-tail IsFrame f frames cut.each; ends = cut.ends; named = cut.named },
)

pub one_cut_lem : (stream : List ℕ) (frames others : List (List ℕ)) (rest other : List ℕ) (fault second : Option FrameFault)
    → IsCut stream frames rest fault → IsCut stream others other second → (frames ≡ others) × (rest ≡ other) × (fault ≡ second)
one_cut_lem stream [] [] rest other fault second a b =
    let e : rest ≡ other = sym a.whole ∙ b.whole in
    (refl, e, a.named ∙ ap fault_at e ∙ sym b.named)
one_cut_lem stream [] (g ∷ gs) rest other fault second a b =
    let split = after_first stream g gs other second b in
    absurd (a.ends (g, concat gs ++ other, split.0, sym a.whole ∙ split.1))
one_cut_lem stream (f ∷ fs) [] rest other fault second a b =
    let split = after_first stream f fs rest fault a in
    absurd (b.ends (f, concat fs ++ rest, split.0, sym b.whole ∙ split.1))
one_cut_lem stream (f ∷ fs) (g ∷ gs) rest other fault second a b =
    let x = after_first stream f fs rest fault a in
    let y = after_first stream g gs other second b in
    let same = one_front f g (concat fs ++ rest) (concat gs ++ other) x.0 y.0 (sym x.1 ∙ y.1) in
    let below = one_cut_lem (concat fs ++ rest) fs gs rest other fault second x.2 (rw (same.1) y.2) in
    (cc, below.1, below.2)

pub pieces_join_lem : (first second : List ℕ) (frames more : List (List ℕ)) (rest last : List ℕ) (fault after : Option FrameFault)
    → IsCut first frames rest fault → IsCut (rest ++ second) more last after → IsCut (first ++ second) (frames ++ more) last after
pieces_join_lem first second frames more rest last fault after a b = record {
  whole = ap (λ (z : List ℕ). z ++ second) a.whole ∙ append_assoc (concat frames) rest second ∙ ap (λ (z : List ℕ). concat frames ++ z) b.whole
      ∙ sym (append_assoc (concat frames) (concat more) last) ∙ ap (λ (z : List ℕ). z ++ last) (sym (concat-append frames more));
  each = All-append IsFrame frames more a.each b.each;
  ends = b.ends;
  named = b.named;
}

abbrev HasCut : List ℕ → Type 0
HasCut s = (frames : List (List ℕ)) × (rest : List ℕ) × (fault : Option FrameFault) × IsCut s frames rest fault

no_more : (s : List ℕ) → (BeginsWithFrame s → ⊥) → HasCut s
no_more s none = ([], s, fault_at s, all_rest s none)

whole_cases : (s : List ℕ) (o : Option FrameFault) → 20 ≤ length s → fault_of (envelope_at s) ≡ o → BeginsWithFrame s ⊎ (BeginsWithFrame s → ⊥)
whole_cases s None long e =
    let n = 20 + payload_len (envelope_at s) in
    elim (cases_lt (length s) n) [
      | inl lt ↦ inr (none_short s lt)
      | inr le ↦
          let parts = sym (take-append-drop n s) in
          inl (take n s, drop n s, front_is_frame s (take n s) (drop n s) long e parts (omega (arith, length-take n s)), parts)
    ]
whole_cases s (Some fault) long e = inr (none_faulty s fault (fault_at_whole s long ∙ e))

-- a frame begins the octets, or none does
pub front_cases : (s : List ℕ) → BeginsWithFrame s ⊎ (BeginsWithFrame s → ⊥)
front_cases s =
    elim (cases_lt (length s) 20) [
      | inl lt ↦ inr (none_short s (omega arith))
      | inr le ↦ whole_cases s (fault_of (envelope_at s)) le refl
    ]

cut_within : (n : ℕ) (s : List ℕ) → length s ≤ n → HasCut s
cut_within zero s le = no_more s (none_short s (omega arith))
cut_within (suc n) s le =
    elim (front_cases s) [
      | inl (f, t, frame, e) ↦
          let below = cut_within n t (omega (arith, ap length e, length-append f t, frame.envelope)) in
          (f ∷ below.0, below.1, below.2, frame_first s f t below.0 below.1 below.2 frame e below.3)
      | inr none ↦ no_more s none
    ]

pub each_is_cut_lem : (s : List ℕ) → HasCut s
each_is_cut_lem s = cut_within (length s) s (omega arith)

-- a stream that was cut so far is cut on, chunk by chunk
cut_on : (chunks more front : List (List ℕ)) (before mid last : List ℕ) → IsCut before front mid (fault_at mid) → IsCutInTurn mid chunks more last
    → IsCut (before ++ concat chunks) (front ++ more) last (fault_at last)
cut_on [] more front before mid last so_far turn =
    pieces_join_lem before [] front more mid last (fault_at mid) (fault_at last) so_far (rw (append-nil mid) turn)
cut_on (chunk ∷ chunks) more front before mid last so_far (first, next, others, cut, turn, is) =
    let step = pieces_join_lem before chunk front first mid next (fault_at mid) (fault_at next) so_far cut in
    let all = cut_on chunks others (front ++ first) (before ++ chunk) next last step turn in
    rw (is, ← append_assoc before chunk (concat chunks), ← append_assoc front first others) all

pub chunks_join_lem : (chunks frames : List (List ℕ)) (rest : List ℕ) → IsCutInTurn [] chunks frames rest → IsCut (concat chunks) frames rest (fault_at rest)
chunks_join_lem chunks frames rest turn = cut_on chunks frames [] [] [] rest (all_rest [] (none_short [] (omega arith))) turn
