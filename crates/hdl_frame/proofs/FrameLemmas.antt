-- A frame is found by its envelope alone, so at most one frame begins any octets.
use Rattle.std.proofs.Common.{◌≡◌, ℕ, ◌+◌, ◌≤◌, ◌<◌, List, [], ◌++◌, length, get_or, take, drop, Option, Some, None, refl, sym, ap, ◌∙◌, arith, lit<}
use Rattle.std.proofs.lemmas.Bool.{le-ltb}
use Rattle.std.proofs.lemmas.List.{length-append, get_or_append_left, take_at, append_cancel_left, append-nil}
use Rattle.hdl_frame.specs.declared.envelope.Envelope.{Envelope}
use Rattle.hdl_frame.specs.declared.envelope.FrameFault.{FrameFault}
use Rattle.hdl_frame.specs.Envelope.{envelope_at, fault_of, payload_len}
use Rattle.hdl_frame.specs.Frames.{IsFrame, BeginsWithFrame, fault_at}

-- the envelope of octets is that of their first 20
pub envelope_at-append : (s t : List ℕ) → 20 ≤ length s → envelope_at (s ++ t) ≡ envelope_at s
unfolding envelope_at
envelope_at-append s t long =
    let at : (i : ℕ) → i < 20 → get_or (s ++ t) i 0 ≡ get_or s i 0 = λ i lt. get_or_append_left s t 0 i (omega arith) in
    rw (
      at 0 (lit< tt),
      at 1 (lit< tt),
      at 2 (lit< tt),
      at 3 (lit< tt),
      at 4 (lit< tt),
      at 5 (lit< tt),
      at 6 (lit< tt),
      at 7 (lit< tt),
      at 8 (lit< tt),
      at 9 (lit< tt),
      at 10 (lit< tt),
      at 11 (lit< tt),
      at 12 (lit< tt),
      at 13 (lit< tt),
      at 14 (lit< tt),
      at 15 (lit< tt),
      at 16 (lit< tt),
      at 17 (lit< tt),
      at 18 (lit< tt),
      at 19 (lit< tt),
    ) refl

-- the envelope of octets that a frame begins is the frame's
pub envelope_of_front : (s f t : List ℕ) → IsFrame f → s ≡ f ++ t → envelope_at s ≡ envelope_at f
envelope_of_front s f t frame e = ap envelope_at e ∙ envelope_at-append f t frame.envelope

-- the front of the octets, as long as their envelope says, is a frame
pub front_is_frame : (s f t : List ℕ) → 20 ≤ length s → fault_of (envelope_at s) ≡ None → s ≡ f ++ t → length f ≡ 20 + payload_len (envelope_at s) → IsFrame f
front_is_frame s f t long accepted e len =
    let whole : 20 ≤ length f = omega arith in
    let same : envelope_at s ≡ envelope_at f = ap envelope_at e ∙ envelope_at-append f t whole in
    record { envelope = whole; accepted = rw same at accepted; payload = rw same at len }

-- no frame begins octets that are shorter than their envelope says
pub none_short : (s : List ℕ) → length s < 20 + payload_len (envelope_at s) → BeginsWithFrame s → ⊥
none_short s short (f, t, frame, e) =
    let same = envelope_of_front s f t frame e in
    let len : length s ≡ length f + length t = ap length e ∙ length-append f t in
    let n : length f ≡ 20 + payload_len (envelope_at s) = rw same frame.payload in
    absurd (omega arith)

-- no frame begins octets that a faulty envelope begins
pub none_faulty : (s : List ℕ) (fault : FrameFault) → fault_at s ≡ Some fault → BeginsWithFrame s → ⊥
unfolding fault_at
none_faulty s fault e (f, t, frame, is) =
    let long : 20 ≤ length s = omega (arith, ap length is, length-append f t, frame.envelope) in
    let same = envelope_of_front s f t frame is in
    let none : fault_of (envelope_at s) ≡ None = rw same frame.accepted in
    let test = le-ltb (length s) 20 long in
    let e' = rw (test, none) at e in
    absurd cc

-- the fault of a whole envelope
pub fault_at_whole : (s : List ℕ) → 20 ≤ length s → fault_at s ≡ fault_of (envelope_at s)
unfolding fault_at
fault_at_whole s long = rw (le-ltb (length s) 20 long) refl

-- a whole accepted envelope begins octets that are no fault
pub fault_at_none : (s : List ℕ) → fault_of (envelope_at s) ≡ None → fault_at s ≡ None
unfolding fault_at
fault_at_none s none = rw none (grind arith)

-- two frames that begin the same octets are one
pub one_front : (a b x y : List ℕ) → IsFrame a → IsFrame b → a ++ x ≡ b ++ y → (a ≡ b) × (x ≡ y)
one_front a b x y fa fb e =
    let same : envelope_at a ≡ envelope_at b = sym (envelope_at-append a x fa.envelope) ∙ ap envelope_at e ∙ envelope_at-append b y fb.envelope in
    let len : length a ≡ length b = fa.payload ∙ ap (λ (v : Envelope). 20 + payload_len v) same ∙ sym fb.payload in
    let heads : a ≡ b = sym (take_at a x (length a) refl) ∙ ap (take (length a)) e ∙ take_at b y (length a) (sym len) in
    (heads, append_cancel_left b x y (ap (λ (z : List ℕ). z ++ x) (sym heads) ∙ e))

-- a frame begins itself
pub begins_itself : (s : List ℕ) → IsFrame s → BeginsWithFrame s
begins_itself s frame = (s, [], frame, sym (append-nil s))

-- octets that a frame begins, with more behind it, are no frame
pub no_frame_with_more : (s f t : List ℕ) → IsFrame f → s ≡ f ++ t → 0 < length t → IsFrame s → ⊥
no_frame_with_more s f t frame e more whole =
    let both = one_front s f [] t whole frame (append-nil s ∙ e) in
    let none : length t ≡ 0 = ap length (sym both.1) in
    absurd (omega arith)

-- for `one_datagram`
pub ruleset datagram_rules = (begins_itself, no_frame_with_more, none_faulty, append-nil)
