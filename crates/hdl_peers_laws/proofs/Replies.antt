-- What the trail sees of a reply: its code, and its SessionId.
use Rattle.std.proofs.Common.{◌≡◌, ℕ, zero, suc, ◌<◌, ◌≤◌, ◌^◌, Bool, true, false, cond, eqb, leb, List, [], ◌∷◌, ◌++◌, length, map, take, drop, Option, Some, None, option_map, refl, sym, ap, ◌∙◌, arith}
use Rattle.std.specs.Int.{w32, from_be_bytes}
use Rattle.std.specs.List.{range_with_len}
use Rattle.std.proofs.lemmas.Bool.{le-leb}
use Rattle.std.proofs.lemmas.Bool.Decides.{nat_tests}
use Rattle.std.proofs.lemmas.Nat.{from_be_bytes-to_be_bytes_4}
use Rattle.hdl_frame.specs.declared.envelope.Envelope.{Envelope}
use Rattle.hdl_frame.specs.Envelope.{envelope_at, envelope_octets}
use Rattle.hdl_frame.specs.Pieces.{datagram, datagram_envelope, datagram_count, stretch}
use Rattle.hdl_msg.specs.Laws.{response_code_at}
use Rattle.hdl_peers.specs.declared.exchange.Exchange.{Exchange}
use Rattle.hdl_peers.specs.Exchange.{number_at, reply_of, known_by, with_reply}
use Rattle.hdl_peers_laws.specs.Follows.{datagrams_of, answered_by}

-- ---- the envelope

sequence_read : (e : Envelope) (rest : List ℕ) → e.sequence ≡ 0 → (envelope_at (envelope_octets e ++ rest)).sequence ≡ 0
unfolding envelope_at envelope_octets
sequence_read e rest none = from_be_bytes-to_be_bytes_4 e.sequence (omega (arith, none)) ∙ none

session_read : (e : Envelope) (rest : List ℕ) → e.session < 2 ^ 32 → (envelope_at (envelope_octets e ++ rest)).session ≡ e.session
unfolding envelope_at envelope_octets
session_read e rest fits = from_be_bytes-to_be_bytes_4 e.session fits

cut_sequence : (e : Envelope) → e.sequence ≡ 0 → (datagram_envelope e 0).sequence ≡ 0
cut_sequence e none = by_test (leb e.length 492)
  where
    by_test : (b : Bool) → (cond {A = Envelope} b e (record e { flags = 0x2000; sequence = 0 })).sequence ≡ 0
    by_test true = none
    by_test false = refl

cut_session : (e : Envelope) → (datagram_envelope e 0).session ≡ e.session
cut_session e = by_test (leb e.length 492)
  where
    by_test : (b : Bool) → (cond {A = Envelope} b e (record e { flags = 0x2000; sequence = 0 })).session ≡ e.session
    by_test true = refl
    by_test false = refl

-- ---- the first datagram

abbrev pub front : List ℕ → List ℕ
front octets = envelope_octets (datagram_envelope (envelope_at octets) 0) ++ stretch (drop 20 octets) 0

code_read : (e : Envelope) (m : List ℕ) → 8 ≤ length m → number_at (envelope_octets e ++ take 492 m) 24 ≡ Some (from_be_bytes w32 (take 4 (drop 4 m)))
unfolding envelope_octets
code_read e [] long = absurd (omega arith)
code_read e (a ∷ []) long = absurd (omega arith)
code_read e (a ∷ b ∷ []) long = absurd (omega arith)
code_read e (a ∷ b ∷ c ∷ []) long = absurd (omega arith)
code_read e (a ∷ b ∷ c ∷ d ∷ []) long = absurd (omega arith)
code_read e (a ∷ b ∷ c ∷ d ∷ x ∷ []) long = absurd (omega arith)
code_read e (a ∷ b ∷ c ∷ d ∷ x ∷ y ∷ []) long = absurd (omega arith)
code_read e (a ∷ b ∷ c ∷ d ∷ x ∷ y ∷ z ∷ []) long = absurd (omega arith)
code_read e (a ∷ b ∷ c ∷ d ∷ x ∷ y ∷ z ∷ w ∷ more) long =
    ap (λ (t : Bool). cond t (Some (from_be_bytes w32 (x ∷ y ∷ z ∷ w ∷ []))) None) (le-leb 28 (length (envelope_octets e ++ take 492 (a ∷ b ∷ c ∷ d ∷ x ∷ y ∷ z ∷ w ∷ more))) (omega arith))

message_behind : (e : Envelope) (m : List ℕ) → drop 20 (envelope_octets e ++ m) ≡ m
unfolding envelope_octets
message_behind e m = refl

code_behind : (e : Envelope) (m : List ℕ) → response_code_at (envelope_octets e ++ m) ≡ from_be_bytes w32 (take 4 (drop 4 m))
unfolding envelope_octets
code_behind e m = refl

front_is : (e : Envelope) (m : List ℕ) → front (envelope_octets e ++ m) ≡ envelope_octets (datagram_envelope (envelope_at (envelope_octets e ++ m)) 0) ++ take 492 m
front_is e m = ap (λ (t : List ℕ). envelope_octets (datagram_envelope (envelope_at (envelope_octets e ++ m)) 0) ++ stretch t 0) (message_behind e m)

-- of a reply with this envelope and message the trail sees the code, and a SessionId
pub reply_read : (e : Envelope) (m : List ℕ) → e.sequence ≡ 0 → 8 ≤ length m
    → reply_of (front (envelope_octets e ++ m)) ≡ Some (response_code_at (envelope_octets e ++ m), (envelope_at (front (envelope_octets e ++ m))).session)
reply_read e m none long =
    let octets : List ℕ = envelope_octets e ++ m in
    let d : Envelope = datagram_envelope (envelope_at octets) 0 in
    let first : front octets ≡ envelope_octets d ++ take 492 m = front_is e m in
    let begins : (envelope_at (front octets)).sequence ≡ 0 =
    ap (λ (t : List ℕ). (envelope_at t).sequence) first ∙ sequence_read d (take 492 m) (cut_sequence (envelope_at octets) (sequence_read e m none)) in
    let code : number_at (front octets) 24 ≡ Some (response_code_at octets) =
    ap (λ (t : List ℕ). number_at t 24) first ∙ code_read d m long ∙ ap Some (sym (code_behind e m)) in
    let session : ℕ = (envelope_at (front octets)).session in
    ap (λ (n : ℕ). cond (eqb n 0) (option_map (λ (c : ℕ). (c, session)) (number_at (front octets) 24)) None) begins
    ∙ ap (option_map (λ (c : ℕ). (c, session))) code

-- which is the reply's, where it fits its field
pub session_seen : (e : Envelope) (m : List ℕ) → e.session < 2 ^ 32 → (envelope_at (front (envelope_octets e ++ m))).session ≡ e.session
session_seen e m fits =
    let octets : List ℕ = envelope_octets e ++ m in
    let d : Envelope = datagram_envelope (envelope_at octets) 0 in
    let same : d.session ≡ e.session = cut_session (envelope_at octets) ∙ session_read e m fits in
    let small : d.session < 2 ^ 32 = omega (arith, same) in
    ap (λ (t : List ℕ). (envelope_at t).session) (front_is e m) ∙ session_read d (take 492 m) small ∙ same

-- ---- all datagrams

counted : (len : ℕ) → 0 < datagram_count len
counted len = grind (arith, nat_tests)

first_of : (octets : List ℕ) (n : ℕ) → 0 < n → (later : List (List ℕ)) × (map (λ (d : List ℕ × List ℕ). d.0 ++ d.1) (map (datagram (envelope_at octets) (drop 20 octets)) (range_with_len 0 n)) ≡ front octets ∷ later)
first_of octets zero some = absurd (omega arith)
first_of octets (suc n) some = (map (λ (d : List ℕ × List ℕ). d.0 ++ d.1) (map (datagram (envelope_at octets) (drop 20 octets)) (range_with_len 1 n)), refl)

known_stays : (ds : List (List ℕ)) (e : Exchange) (r : ℕ × ℕ) → e.reply ≡ Some r → answered_by ds e ≡ e
known_stays [] e r known = refl
known_stays (d ∷ ds) e r known =
    let same : with_reply d e ≡ e = ap (λ (o : Option (ℕ × ℕ)). record e { reply = o }) (ap (known_by d) known ∙ sym known) in
    ap (answered_by ds) same ∙ known_stays ds e r known

-- the reply is what the first datagram says
pub answered_is : (octets : List ℕ) (e : Exchange) (r : ℕ × ℕ) → e.reply ≡ None → reply_of (front octets) ≡ Some r → answered_by (datagrams_of octets) e ≡ record e { reply = Some r }
answered_is octets e r none read =
    let all = first_of octets (datagram_count (envelope_at octets).length) (counted (envelope_at octets).length) in
    let here : with_reply (front octets) e ≡ record e { reply = Some r } = ap (λ (o : Option (ℕ × ℕ)). record e { reply = o }) (ap (known_by (front octets)) none ∙ read) in
    ap (λ (ds : List (List ℕ)). answered_by ds e) all.1 ∙ ap (answered_by all.0) here ∙ known_stays all.0 (record e { reply = Some r }) r refl
