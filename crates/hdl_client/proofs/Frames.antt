-- A frame that is taken in two parts.
use Rattle.std.proofs.Common.{◌≡◌, ℕ, List, ◌++◌, length, drop, Option, Some, None, sym, ap, subst, ◌∙◌, arith}
use Rattle.std.proofs.Math.Seq.{drop-append_seam}
use Rattle.std.proofs.lemmas.List.{length-append, append_assoc}
use Rattle.std.specs.Io.KnownBytes.{Appends, Keeps}
use Rattle.hdl_frame.specs.Envelope.{envelope_at, fault_of, payload_len}
use Rattle.hdl_frame.specs.Frames.{IsFrame}
use Rattle.hdl_frame.proofs.FrameLemmas.{envelope_at-append}
use Rattle.hdl_client.specs.declared.exchange.OwnedFrame.{OwnedFrame}
use Rattle.hdl_value.specs.declared.wire.Wire.{Wire}
use Rattle.hdl_frame.specs.declared.envelope.Envelope.{Envelope}
use Rattle.hdl_client.specs.Exchange.{TakesFrame, delivery_in}
use Rattle.hdl_client.specs.Reply.{Delivery}

-- an accepted envelope, and as many octets as follow it
pub whole_is_frame : (front payload : List ℕ) → length front ≡ 20 → fault_of (envelope_at front) ≡ None → length payload ≡ payload_len (envelope_at front) → IsFrame (front ++ payload)
whole_is_frame front payload twenty accepted whole =
    let at : envelope_at (front ++ payload) ≡ envelope_at front = envelope_at-append front payload (omega arith) in
    record { envelope = omega (arith, length-append front payload); accepted = rw at accepted; payload = rw at (omega (arith, length-append front payload)) }

-- what is added in two parts
pub added_in_turn : (all mid rest : Option (List ℕ)) (front payload : List ℕ) → Appends all mid front → Appends mid rest payload → Appends all rest (front ++ payload)
added_in_turn None mid rest front payload c d = tt
added_in_turn (Some xs) None rest front payload c d = elim c [ ]
added_in_turn (Some xs) (Some ys) None front payload c d = d
added_in_turn (Some xs) (Some ys) (Some zs) front payload c d = d ∙ ap (λ t. t ++ payload) c ∙ append_assoc xs front payload

-- what is kept by two calls
pub kept_twice : (all mid rest : Option (List ℕ)) → Keeps all mid → Keeps mid rest → Keeps all rest
kept_twice None mid rest p q = tt
kept_twice (Some xs) None rest p q = elim p [ ]
kept_twice (Some xs) (Some ys) None p q = q
kept_twice (Some xs) (Some ys) (Some zs) p q = q ∙ p

-- an accepted envelope and its payload, taken one after the other, are a frame
pub takes_frame : (all mid rest : Option (List ℕ)) (front payload : List ℕ) (found : OwnedFrame) → Appends all mid front → Appends mid rest payload → length front ≡ 20 → found.envelope ≡ envelope_at front → fault_of found.envelope ≡ None → length payload ≡ payload_len found.envelope → found.payload.items ≡ payload → TakesFrame all rest found
takes_frame all mid rest front payload found first second twenty read accepted len same =
    let accepted_front : fault_of (envelope_at front) ≡ None = subst (λ e. fault_of e ≡ None) read accepted in
    let whole : length payload ≡ payload_len (envelope_at front) = subst (λ e. length payload ≡ payload_len e) read len in
    let at : envelope_at (front ++ payload) ≡ envelope_at front = envelope_at-append front payload (omega (arith, twenty)) in
    let behind : drop 20 (front ++ payload) ≡ payload = subst (λ (n : ℕ). drop n (front ++ payload) ≡ payload) twenty (drop-append_seam front payload) in
    record {
      octets = front ++ payload;
      taken = added_in_turn all mid rest front payload first second;
      frame = whole_is_frame front payload twenty accepted_front whole;
      envelope = read ∙ sym at;
      payload = same ∙ sym behind;
    }

abbrev pub delivery : Wire → Envelope → List ℕ → Delivery
delivery wire envelope message = record { wire = wire; envelope = envelope; message = message }

-- what is made of a frame that was taken is what came in it
pub carried : (before after : Option (List ℕ)) (wire : Wire) (found : OwnedFrame) (taken : TakesFrame before after found) (reply : Delivery) → reply ≡ delivery wire found.envelope found.payload.items → reply ≡ delivery_in wire taken.octets
carried before after wire found taken reply e =
    let envelopes : delivery wire found.envelope found.payload.items ≡ delivery wire (envelope_at taken.octets) found.payload.items = ap (λ (v : Envelope). delivery wire v found.payload.items) taken.envelope in
    let messages : delivery wire (envelope_at taken.octets) found.payload.items ≡ delivery_in wire taken.octets = ap (delivery wire (envelope_at taken.octets)) taken.payload in
    e ∙ envelopes ∙ messages
