-- The envelope read is the envelope written, and the octets written are those read.
use Rattle.std.proofs.Common.{◌≡◌, ℕ, zero, suc, ◌+◌, ◌≤◌, ◌<◌, ◌^◌, List, [], ◌∷◌, ◌++◌, length, get_or, drop, refl, sym, ap, ◌∙◌, arith, lit<}
use Rattle.std.specs.Int.{w16, w32, to_be_bytes, from_be_bytes}
use Rattle.std.proofs.lemmas.List.{length-append, length-drop, drop_more, drop_at}
use Rattle.std.proofs.lemmas.Nat.{be_bytes_2, be_bytes_4, from_be_bytes-to_be_bytes_2, from_be_bytes-to_be_bytes_4}
use Rattle.hdl_frame.specs.declared.envelope.Envelope.{Envelope}
use Rattle.hdl_frame.specs.Envelope.{envelope_at, envelope_octets, Fits, payload_len}
use Rattle.hdl_frame.specs.Frames.{IsFrame}
use Rattle.hdl_limits.specs.Octets.{AreOctets}
use Rattle.hdl_frame.specs.Spelling.{SpellsFrame}
use Rattle.hdl_frame.proofs.FrameLemmas.{envelope_at-append}

pub length-envelope_octets : (e : Envelope) → length (envelope_octets e) ≡ 20
unfolding envelope_octets
length-envelope_octets e = refl

pub envelope_at-octets : (e : Envelope) → Fits e → envelope_at (envelope_octets e) ≡ e
unfolding envelope_at envelope_octets
envelope_at-octets e fits =
    rw (
      from_be_bytes-to_be_bytes_2 e.flags fits.flags,
      from_be_bytes-to_be_bytes_4 e.session fits.session,
      from_be_bytes-to_be_bytes_4 e.request fits.request,
      from_be_bytes-to_be_bytes_4 e.sequence fits.sequence,
      from_be_bytes-to_be_bytes_4 e.length fits.length,
    ) refl

pub spelled_is_frame_lem : (octets : List ℕ) (e : Envelope) (payload : List ℕ) → SpellsFrame octets e payload
    → IsFrame octets × (envelope_at octets ≡ e) × (drop 20 octets ≡ payload)
spelled_is_frame_lem octets e payload s =
    let twenty = length-envelope_octets e in
    let at : envelope_at octets ≡ e = ap envelope_at s.spelled ∙ envelope_at-append (envelope_octets e) payload (omega arith) ∙ envelope_at-octets e s.fits in
    let len : length octets ≡ length (envelope_octets e) + length payload = ap length s.spelled ∙ length-append (envelope_octets e) payload in
    let sized : length octets ≡ 20 + payload_len e = omega (arith, s.whole) in
    (record { envelope = omega arith; accepted = rw at s.accepted; payload = rw at sized }, at, ap (drop 20) s.spelled ∙ drop_at (envelope_octets e) payload 20 twenty)

-- n cells from place i on, and what follows them
cells : List ℕ → ℕ → ℕ → List ℕ
cells s i zero = drop i s
cells s i (suc n) = get_or s i 0 ∷ cells s (i + 1) n

cells-is : (s : List ℕ) (n i : ℕ) → i + n ≤ length s → cells s i n ≡ drop i s
unfolding cells
cells-is s zero i le = refl
cells-is s (suc n) i le = ap (λ (t : List ℕ). get_or s i 0 ∷ t) (cells-is s n (i + 1) (omega arith)) ∙ sym (drop_more s i 0 (omega arith))

-- the seven fields' octets, and what follows them
joined : ℕ → ℕ → List ℕ → List ℕ → List ℕ → List ℕ → List ℕ → List ℕ → List ℕ
joined major minor flags session request sequence len rest = (major ∷ minor ∷ (flags ++ session ++ request ++ sequence ++ len)) ++ rest

written : (e : Envelope) (rest : List ℕ) → envelope_octets e ++ rest ≡ joined e.major e.minor (to_be_bytes w16 e.flags) (to_be_bytes w32 e.session) (to_be_bytes w32 e.request) (to_be_bytes w32 e.sequence) (to_be_bytes w32 e.length) rest
unfolding envelope_octets joined
written e rest = refl

abbrev four : List ℕ → ℕ → List ℕ
four s i = get_or s i 0 ∷ get_or s (i + 1) 0 ∷ get_or s (i + 2) 0 ∷ get_or s (i + 3) 0 ∷ []

read_back : (s : List ℕ) → 20 ≤ length s → joined (get_or s 0 0) (get_or s 1 0) (get_or s 2 0 ∷ get_or s 3 0 ∷ []) (four s 4) (four s 8) (four s 12) (four s 16) (drop 20 s) ≡ s
unfolding joined cells
read_back s long = cells-is s 20 0 long

small_four : (s : List ℕ) (k : ℕ) → AreOctets s → (i : ℕ) → get_or (four s k) i 0 < 256
small_four s k octets zero = octets k
small_four s k octets (suc zero) = octets (k + 1)
small_four s k octets (suc (suc zero)) = octets (k + 2)
small_four s k octets (suc (suc (suc zero))) = octets (k + 3)
small_four s k octets (suc (suc (suc (suc i)))) = lit< tt

same_four : (s : List ℕ) (k : ℕ) → AreOctets s → to_be_bytes w32 (from_be_bytes w32 (four s k)) ≡ four s k
same_four s k octets = be_bytes_4 (four s k) _ refl (small_four s k octets) refl

small_two : (a b : ℕ) → a < 256 → b < 256 → (i : ℕ) → get_or (a ∷ b ∷ []) i 0 < 256
small_two a b p q zero = p
small_two a b p q (suc zero) = q
small_two a b p q (suc (suc i)) = lit< tt

pub octets-envelope_at : (s : List ℕ) → AreOctets s → 20 ≤ length s → envelope_octets (envelope_at s) ++ drop 20 s ≡ s
unfolding envelope_at
octets-envelope_at s octets long =
    let flags = be_bytes_2 (get_or s 2 0 ∷ get_or s 3 0 ∷ []) _ refl (small_two (get_or s 2 0) (get_or s 3 0) (octets 2) (octets 3)) refl in
    written (envelope_at s) (drop 20 s) ∙ rw (flags, same_four s 4 octets, same_four s 8 octets, same_four s 12 octets, same_four s 16 octets) (read_back s long)

low_four : (s : List ℕ) (k : ℕ) → AreOctets s → from_be_bytes w32 (four s k) < 2 ^ 32
low_four s k octets = omega (arith, octets k, octets (k + 1), octets (k + 2), octets (k + 3))

pub envelope_at-fits : (s : List ℕ) → AreOctets s → Fits (envelope_at s)
unfolding envelope_at
envelope_at-fits s octets = record {
  major = octets 0;
  minor = octets 1;
  flags = omega (arith, octets 2, octets 3);
  session = low_four s 4 octets;
  request = low_four s 8 octets;
  sequence = low_four s 12 octets;
  length = low_four s 16 octets;
}

pub frame_is_spelled_lem : (octets : List ℕ) → AreOctets octets → IsFrame octets → SpellsFrame octets (envelope_at octets) (drop 20 octets)
frame_is_spelled_lem octets small frame = record {
  spelled = sym (octets-envelope_at octets small frame.envelope);
  fits = envelope_at-fits octets small;
  accepted = frame.accepted;
  whole = omega (arith, length-drop 20 octets, frame.payload);
}

pub one_frame_lem : (octets : List ℕ) (e f : Envelope) (payload other : List ℕ) → SpellsFrame octets e payload → SpellsFrame octets f other → (e ≡ f) × (payload ≡ other)
one_frame_lem octets e f payload other a b =
    let first = spelled_is_frame_lem octets e payload a in
    let second = spelled_is_frame_lem octets f other b in
    (sym first.1 ∙ second.1, sym first.2 ∙ second.2)
