-- The datagrams of a reply say it whole.
use Rattle.std.proofs.Common.{◌≡◌, ℕ, zero, suc, ◌+◌, ◌-◌, ◌*◌, ◌≤◌, ◌<◌, ◌^◌, List, ◌++◌, length, drop, map, refl, sym, ap, ◌∙◌, append_assoc, arith, lit<, inl, inr}
use Rattle.std.specs.List.{flat_map, range_with_len}
use Rattle.std.proofs.lemmas.Bool.{cases_lt, le-ltb}
use Rattle.std.proofs.lemmas.Bool.Decides.{nat_tests}
use Rattle.std.proofs.lemmas.List.{append-nil, drop_at, drop_all, drop-drop, length-append, take_all, take-append-drop}
use Rattle.hdl_frame.specs.declared.envelope.Envelope.{Envelope}
use Rattle.hdl_frame.specs.Envelope.{envelope_at, envelope_octets, Fits}
use Rattle.hdl_frame.specs.Pieces.{stretch, datagram, datagrams, datagram_count, datagram_envelope, piece_count}
use Rattle.hdl_frame.proofs.FrameLemmas.{envelope_at-append}
use Rattle.hdl_frame.proofs.SpellingLemmas.{length-envelope_octets, envelope_at-octets}
use Rattle.hdl_overflow_lane.specs.Joining.{whole_envelope, part_of, said_of, said_by}

-- the envelope and the payload that were put together
envelope_back : (e : Envelope) (payload : List ℕ) → Fits e → envelope_at (envelope_octets e ++ payload) ≡ e
envelope_back e payload fits = envelope_at-append (envelope_octets e) payload (omega (arith, length-envelope_octets e)) ∙ envelope_at-octets e fits

payload_back : (e : Envelope) (payload : List ℕ) → drop 20 (envelope_octets e ++ payload) ≡ payload
payload_back e payload = drop_at (envelope_octets e) payload 20 (length-envelope_octets e)

long : (e : Envelope) (payload : List ℕ) → 20 ≤ length (envelope_octets e ++ payload)
long e payload = omega (arith, length-append (envelope_octets e) payload, length-envelope_octets e)

-- a datagram without TC says itself
said_whole : (e : Envelope) (payload : List ℕ) → Fits e → e.flags ≡ 0 → said_of (envelope_octets e ++ payload) ≡ envelope_octets e ++ payload
said_whole e payload fits none =
    let test = le-ltb (length (envelope_octets e ++ payload)) 20 (long e payload) in
    rw (test, envelope_back e payload fits, none) refl

-- a piece says its part
said_piece : (e : Envelope) (payload : List ℕ) → Fits e → e.flags ≡ 0x2000 → said_of (envelope_octets e ++ payload) ≡ part_of e payload
said_piece e payload fits tc =
    let test = le-ltb (length (envelope_octets e ++ payload)) 20 (long e payload) in
    rw (test, envelope_back e payload fits, payload_back e payload, tc) refl

-- the rest of a message is its next stretch and what follows that
next_stretch : (message : List ℕ) (k : ℕ) → stretch message k ++ drop (492 * (k + 1)) message ≡ drop (492 * k) message
next_stretch message k =
    let far : 492 * (k + 1) ≡ 492 * k + 492 = omega arith in
    ap (λ (n : ℕ). stretch message k ++ drop n message) far ∙ ap (λ (r : List ℕ). stretch message k ++ r) (sym (drop-drop 492 (492 * k) message))
    ∙ take-append-drop 492 (drop (492 * k) message)

-- so many stretches are the rest of a message that they reach the end of
stretches : (message : List ℕ) (k n : ℕ) → length message ≤ 492 * (k + n) → flat_map (stretch message) (range_with_len k n) ≡ drop (492 * k) message
stretches message k zero reach = sym (drop_all (492 * k) message (omega (arith, reach)))
stretches message k (suc n) reach =
    ap (λ (r : List ℕ). stretch message k ++ r) (stretches message (k + 1) n (omega (arith, reach))) ∙ next_stretch message k

-- the envelope of a piece
abbrev piece_envelope : Envelope → ℕ → Envelope
piece_envelope e k = record e { flags = 0x2000; sequence = k }

piece_fits : (e : Envelope) (k : ℕ) → Fits e → k < 2 ^ 32 → Fits (piece_envelope e k)
piece_fits e k fits small = record {
  major = fits.major;
  minor = fits.minor;
  flags = lit< tt;
  session = fits.session;
  request = fits.request;
  sequence = small;
  length = fits.length;
}

is_piece : (e : Envelope) (k : ℕ) → 492 < e.length → datagram_envelope e k ≡ piece_envelope e k
is_piece e k long = grind (arith, nat_tests)

-- the part of a later piece is its payload
later_part : (e : Envelope) (k : ℕ) (payload : List ℕ) → part_of (piece_envelope e (k + 1)) payload ≡ payload
later_part e k payload = grind (arith, nat_tests)

-- pieces but the first say their stretches
later_pieces : (e : Envelope) (message : List ℕ) (k n : ℕ) → Fits e → 492 < e.length → k + 1 + n ≤ 2 ^ 32
    → said_by (map (datagram e message) (range_with_len (k + 1) n)) ≡ flat_map (stretch message) (range_with_len (k + 1) n)
later_pieces e message k zero fits long few = refl
later_pieces e message k (suc n) fits long few =
    let here : said_of (envelope_octets (datagram_envelope e (k + 1)) ++ stretch message (k + 1)) ≡ stretch message (k + 1) =
    rw (is_piece e (k + 1) long)
    (said_piece (piece_envelope e (k + 1)) (stretch message (k + 1)) (piece_fits e (k + 1) fits (omega (arith, few))) refl ∙ later_part e k (stretch message (k + 1))) in
    let below = later_pieces e message (k + 1) n fits long (omega (arith, few)) in
    ap (λ (r : List ℕ). r ++ said_by (map (datagram e message) (range_with_len (k + 1 + 1) n))) here ∙ ap (λ (r : List ℕ). stretch message (k + 1) ++ r) below

-- the first says the envelope too
first_piece : (e : Envelope) (message : List ℕ) → Fits e → e.flags ≡ 0 → e.sequence ≡ 0 → 492 < e.length
    → said_of (envelope_octets (datagram_envelope e 0) ++ stretch message 0) ≡ envelope_octets e ++ stretch message 0
first_piece e message fits none first long =
    let whole : whole_envelope (piece_envelope e 0) ≡ e =
    ap (λ (n : ℕ). record e { flags = n; sequence = 0 }) (sym none) ∙ ap (λ (n : ℕ). record e { sequence = n }) (sym first) in
    rw (is_piece e 0 long) (said_piece (piece_envelope e 0) (stretch message 0) (piece_fits e 0 fits (lit< tt)) refl ∙ ap (λ (f : Envelope). envelope_octets f ++ stretch message 0) whole)

long_reply : (e : Envelope) (message : List ℕ) (n : ℕ) → Fits e → e.flags ≡ 0 → e.sequence ≡ 0 → length message ≡ e.length → 492 < e.length → e.length ≤ 492 * (n + 1) → n < 2 ^ 32
    → said_by (map (datagram e message) (range_with_len 0 (suc n))) ≡ envelope_octets e ++ message
long_reply e message n fits none first whole long reach few =
    ap (λ (r : List ℕ). r ++ said_by (map (datagram e message) (range_with_len 1 n))) (first_piece e message fits none first long)
    ∙ ap (λ (r : List ℕ). (envelope_octets e ++ stretch message 0) ++ r) (later_pieces e message 0 n fits long (omega (arith, few)))
    ∙ append_assoc (envelope_octets e) (stretch message 0) (flat_map (stretch message) (range_with_len 1 n))
    ∙ ap (λ (r : List ℕ). envelope_octets e ++ r) (stretches message 0 (suc n) (omega (arith, whole, reach)))

short_reply_said : (e : Envelope) (message : List ℕ) → Fits e → e.flags ≡ 0 → length message ≡ e.length → e.length ≤ 492 → said_by (datagrams e message) ≡ envelope_octets e ++ message
short_reply_said e message fits none whole short =
    let one : datagram_count e.length ≡ 1 = grind (arith, nat_tests) in
    let same : datagram_envelope e 0 ≡ e = grind (arith, nat_tests) in
    let all : stretch message 0 ≡ message = take_all 492 message (omega (arith, whole)) in
    rw (one, same, all) (append-nil (said_of (envelope_octets e ++ message)) ∙ said_whole e message fits none)

pub says_reply_lem : (e : Envelope) (message : List ℕ) → Fits e → e.flags ≡ 0 → e.sequence ≡ 0 → length message ≡ e.length
    → said_by (datagrams e message) ≡ envelope_octets e ++ message
says_reply_lem e message fits none first whole =
    elim (cases_lt 492 e.length) [
      | inl long ↦
          let n = piece_count e.length - 1 in
          let count : datagram_count e.length ≡ suc n = grind (arith, nat_tests) in
          rw count (long_reply e message n fits none first whole long (omega arith) (omega (arith, fits.length)))
      | inr short ↦ short_reply_said e message fits none whole short
    ]
