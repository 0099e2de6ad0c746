-- The message that pieces make is their payloads by number, one after the other.
use Rattle.std.proofs.Common.{◌≡◌, ℕ, zero, suc, ◌+◌, ◌-◌, ◌*◌, ◌<◌, ◌≤◌, min, eqb, List, [], ◌∷◌, ◌++◌, map, length, take, drop, Option, Some, None, refl, sym, ap, ◌∙◌, arith, inl, inr}
use Rattle.std.specs.List.{range_with_len}
use Rattle.std.proofs.Math.Seq.{take-add}
use Rattle.std.proofs.lemmas.Bool.{cases_lt, cases_Bool}
use Rattle.std.proofs.lemmas.Bool.Decides.{nat_tests}
use Rattle.std.proofs.lemmas.List.{drop-drop, drop_at, drop_all, take_at, take_all, length-append, append-nil}
use Rattle.std.proofs.lemmas.List.Elements.{All-head, All-tail}
use Rattle.hdl_frame.specs.Pieces.{piece_count, stretch}
use Rattle.hdl_frame.specs.Whole.{Piece, payload_of, MakeMessage, before, whole_payload, message_of, HaveTheirLength}

-- n stretches of a message from number k on are its octets from 492 * k on, 492 * n of them
joined_stretches : (f : ℕ → Option (List ℕ)) (message : List ℕ) (n k : ℕ) → ((i : ℕ) → k ≤ i → i < k + n → f i ≡ Some (stretch message i))
    → whole_payload (map f (range_with_len k n)) ≡ Some (take (492 * n) (drop (492 * k) message))
joined_stretches f message zero k each = refl
joined_stretches f message (suc n) k each =
    let here = each k (omega arith) (omega arith) in
    let rest = joined_stretches f message n (k + 1) (λ i low high. each i (omega arith) (omega arith)) in
    let next : 492 * (k + 1) ≡ 492 * k + 492 = omega arith in
    let more : 492 * suc n ≡ 492 + 492 * n = omega arith in
    let behind : drop (492 * (k + 1)) message ≡ drop 492 (drop (492 * k) message) = ap (λ (i : ℕ). drop i message) next ∙ sym (drop-drop 492 (492 * k) message) in
    rw (here, rest, more, take-add 492 (492 * n) (drop (492 * k) message), behind) refl

pub message_is_joined_lem : (pieces : List Piece) (len : ℕ) (message : List ℕ) → MakeMessage pieces len message → message_of pieces len ≡ Some message
message_is_joined_lem pieces len message made =
    let all : length message ≤ 492 * piece_count len = omega (arith, made.whole) in
    joined_stretches (payload_of pieces) message (piece_count len) 0 (λ i low high. made.each i (omega arith)) ∙ ap (λ (s : List ℕ). Some s) (take_all (492 * piece_count len) message all)

pub one_message_lem : (pieces : List Piece) (len : ℕ) (message other : List ℕ) → MakeMessage pieces len message → MakeMessage pieces len other → message ≡ other
one_message_lem pieces len message other a b =
    let same : Some message ≡ Some other = sym (message_is_joined_lem pieces len message a) ∙ message_is_joined_lem pieces len other b in
    cc

before_some : (payload : List ℕ) (r : Option (List ℕ)) (message : List ℕ) → before payload r ≡ Some message → (rest : List ℕ) × (r ≡ Some rest) × (message ≡ payload ++ rest)
before_some payload None message e = absurd cc
before_some payload (Some rest) message e = (rest, refl, cc)

-- what is joined begins with the first payload
joined_some : (o : Option (List ℕ)) (os : List (Option (List ℕ))) (message : List ℕ) → whole_payload (o ∷ os) ≡ Some message
    → (payload : List ℕ) × (rest : List ℕ) × (o ≡ Some payload) × (whole_payload os ≡ Some rest) × (message ≡ payload ++ rest)
joined_some None os message e = absurd cc
joined_some (Some payload) os message e =
    let more = before_some payload (whole_payload os) message e in
    (payload, more.0, refl, more.1, more.2)

empty : (xs : List ℕ) → length xs ≡ 0 → xs ≡ []
empty [] e = refl
empty (x ∷ xs) e = absurd (omega arith)

-- the first stretch is the first payload: it is full, or nothing follows it
first_stretch : (payload rest : List ℕ) → length payload ≤ 492 → (length payload < 492 → length rest ≡ 0) → take 492 (payload ++ rest) ≡ payload
first_stretch payload rest le last =
    elim (cases_lt (length payload) 492) [
      | inl lt ↦ rw (empty rest (last lt), append-nil payload) (take_all 492 payload le)
      | inr ge ↦ take_at payload rest 492 (omega arith)
    ]

-- the others are those of the rest
later_stretch : (payload rest : List ℕ) (i : ℕ) → length payload ≤ 492 → (length payload < 492 → length rest ≡ 0) → stretch (payload ++ rest) (suc i) ≡ stretch rest i
later_stretch payload rest i le last =
    let next : 492 * suc i ≡ 492 + 492 * i = omega arith in
    elim (cases_lt (length payload) 492) [
      | inl lt ↦
          let none : length (payload ++ rest) ≤ 492 * suc i = omega (arith, length-append payload rest, last lt) in
          let nothing : length rest ≤ 492 * i = omega (arith, last lt) in
          ap (take 492) (drop_all (492 * suc i) (payload ++ rest) none ∙ sym (drop_all (492 * i) rest nothing))
      | inr ge ↦ rw next (ap (take 492) (sym (drop-drop (492 * i) 492 (payload ++ rest)) ∙ ap (drop (492 * i)) (drop_at payload rest 492 (omega arith))))
    ]

-- a payload is full, or the last
abbrev IsOfLength : ℕ → ℕ → List ℕ → Type 0
IsOfLength len k payload = length payload ≡ min 492 (len - 492 * k)

joined_split : (f : ℕ → Option (List ℕ)) (len n k : ℕ) (message : List ℕ) → ((i : ℕ) (p : List ℕ) → f i ≡ Some p → IsOfLength len i p) → len - 492 * k ≤ 492 * n
    → whole_payload (map f (range_with_len k n)) ≡ Some message → (length message ≡ len - 492 * k) × ((i j : ℕ) → i < n → j ≡ k + i → f j ≡ Some (stretch message i))
joined_split f len zero k message sized le e =
    let none : message ≡ [] = cc in
    (omega (arith, ap length none), λ i j lt at. absurd (omega arith))
joined_split f len (suc n) k message sized le e =
    let parts = joined_some (f k) (map f (range_with_len (k + 1) n)) message e in
    let payload = parts.0 in
    let rest = parts.1 in
    let size : length parts.0 ≡ min 492 (len - 492 * k) = sized k parts.0 parts.2 in
    let below = joined_split f len n (k + 1) parts.1 sized (omega arith) parts.3 in
    let behind : length parts.1 ≡ len - 492 * (k + 1) = below.0 in
    let len-is : length message ≡ length parts.0 + length parts.1 = ap length parts.4 ∙ length-append parts.0 parts.1 in
    let last : length parts.0 < 492 → length parts.1 ≡ 0 = λ lt. omega arith in
    let short : length parts.0 ≤ 492 = omega arith in
    (omega arith, stretches f n k message payload rest parts.2 parts.4 short last below.1)
  where
    stretches : (f : ℕ → Option (List ℕ)) (n k : ℕ) (message payload rest : List ℕ) → f k ≡ Some payload → message ≡ payload ++ rest → length payload ≤ 492 → (length payload < 492 → length rest ≡ 0)
        → ((i j : ℕ) → i < n → j ≡ (k + 1) + i → f j ≡ Some (stretch rest i)) → (i j : ℕ) → i < suc n → j ≡ k + i → f j ≡ Some (stretch message i)
    stretches f n k message payload rest first whole short last below zero j lt at =
        let here : j ≡ k = omega arith in
        rw (here, whole, first_stretch payload rest short last) first
    stretches f n k message payload rest first whole short last below (suc i) j lt at =
        below i j (omega arith) (omega arith) ∙ rw whole (ap (λ (s : List ℕ). Some s) (sym (later_stretch payload rest i short last)))

-- what holds of each piece holds of the first with a number
first_has_length : (len k : ℕ) (pieces : List Piece) (payload : List ℕ) → HaveTheirLength pieces len → payload_of pieces k ≡ Some payload → IsOfLength len k payload
first_has_length len k [] payload all e = absurd cc
first_has_length len k (p ∷ ps) payload all e =
    elim (cases_Bool (eqb p.number k)) [
      | inl same_number ↦
          let found : Some p.payload ≡ Some payload = rw same_number at e in
          let same : p.number ≡ k = grind (arith, nat_tests) in
          let is : p.payload ≡ payload = cc in
          rw (← is, ← same) (All-head (λ (q : Piece). length q.payload ≡ min 492 (len - 492 * q.number)) p ps all)
      | inr other ↦ first_has_length len k ps payload (All-tail (λ (q : Piece). length q.payload ≡ min 492 (len - 492 * q.number)) p ps all) (rw other at e)
    ]

pub joined_is_message_lem : (pieces : List Piece) (len : ℕ) (message : List ℕ) → HaveTheirLength pieces len → message_of pieces len ≡ Some message → MakeMessage pieces len message
joined_is_message_lem pieces len message sized e =
    let split = joined_split (payload_of pieces) len (piece_count len) 0 message (λ i p at. first_has_length len i pieces p sized at) (omega arith) e in
    record { whole = omega (arith, split.0); each = λ k lt. split.1 k k lt (omega arith) }

before_none : (payload : List ℕ) (r : Option (List ℕ)) → before payload r ≡ None → r ≡ None
before_none payload None e = refl
before_none payload (Some rest) e = absurd cc

abbrev Lacks : (ℕ → Option (List ℕ)) → ℕ → ℕ → Type 0
Lacks f n k = (i : ℕ) × (i < k + n) × (f i ≡ None)

-- where nothing is joined a payload is missing
missing : (f : ℕ → Option (List ℕ)) (n k : ℕ) → whole_payload (map f (range_with_len k n)) ≡ None → Lacks f n k
missing f zero k e = absurd cc
missing f (suc n) k e = at_first (f k) refl e (λ below. missing f n (k + 1) below)
  where
    at_first : (o : Option (List ℕ)) → f k ≡ o → whole_payload (o ∷ map f (range_with_len (k + 1) n)) ≡ None → (whole_payload (map f (range_with_len (k + 1) n)) ≡ None → Lacks f n (k + 1)) → Lacks f (suc n) k
    at_first None is e below = (k, omega arith, is)
    at_first (Some payload) is e below =
        let found = below (before_none payload (whole_payload (map f (range_with_len (k + 1) n))) e) in
        (found.0, omega (arith, found.1), found.2)

pub none_is_missing_lem : (pieces : List Piece) (len : ℕ) → message_of pieces len ≡ None → (k : ℕ) × (k < piece_count len) × (payload_of pieces k ≡ None)
none_is_missing_lem pieces len e =
    let found = missing (payload_of pieces) (piece_count len) 0 e in
    (found.0, omega (arith, found.1), found.2)
