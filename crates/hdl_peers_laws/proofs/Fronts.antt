-- The operation of a message in pieces, as the trail marks it: that of its front, once it came, and of the whole.
use Rattle.std.proofs.Common.{◌≡◌, ℕ, zero, suc, ◌<◌, ◌≤◌, min, Bool, true, false, cond, eqb, leb, List, [], ◌∷◌, ◌++◌, length, set, get_or, drop, Option, Some, None, is_some, is_none, refl, sym, ap, ◌∙◌, arith, inl, inr}
use Rattle.std.specs.Prelude.{IfSome}
use Rattle.std.specs.Option.{option_and_then, option_or}
use Rattle.std.proofs.lemmas.Bool.{le-leb, cases_lt, ne_eqb}
use Rattle.std.proofs.lemmas.Bool.Decides.{leb_tells}
use Rattle.std.proofs.lemmas.List.{append-nil, length-append, length-drop, get_or-drop, get_or_append_left}
use Rattle.hdl_frame.specs.Envelope.{u32_at}
use Rattle.hdl_frame.specs.Pieces.{piece_count}
use Rattle.hdl_frame.specs.Whole.{before, whole_payload}
use Rattle.hdl_peers.specs.Exchange.{number_at}

abbrev pub Payloads : Type 0
Payloads = List (Option (List ℕ))

-- the operation in the front, where that came
abbrev pub front_operation : Payloads → Option ℕ
front_operation ps = option_and_then (λ payload. number_at payload 0) (get_or ps 0 None)

-- the operation that a piece with this number and payload brings
abbrev pub brought : ℕ → List ℕ → Option ℕ
brought n x = cond (eqb n 0) (number_at x 0) None

-- ---- numbers at places

short : (a b : ℕ) → b < a → leb a b ≡ false
short a b lt = elim (leb_tells a b) [ inl fits ↦ absurd (omega (arith, fits.1)) | inr past ↦ past.0 ]

pub number_drop : (octets : List ℕ) → number_at octets 20 ≡ number_at (drop 20 octets) 0
number_drop octets =
    elim (cases_lt (length octets) 24) [
      | inl lt ↦ let left = length-drop 20 octets in
          ap (λ (b : Bool). cond b (Some (u32_at octets 20)) None) (short 24 (length octets) lt)
          ∙ sym (ap (λ (b : Bool). cond b (Some (u32_at (drop 20 octets) 0)) None) (short 4 (length (drop 20 octets)) (omega arith)))
      | inr ge ↦ let left = length-drop 20 octets in
          ap (λ (b : Bool). cond b (Some (u32_at octets 20)) None) (le-leb 24 (length octets) ge)
          ∙ ap Some (sym (rw (get_or-drop 20 octets 0 0, get_or-drop 20 octets 1 0, get_or-drop 20 octets 2 0, get_or-drop 20 octets 3 0) refl))
          ∙ sym (ap (λ (b : Bool). cond b (Some (u32_at (drop 20 octets) 0)) None) (le-leb 4 (length (drop 20 octets)) (omega arith)))
    ]

not_some : (b : Bool) (n : ℕ) → cond b (Some n) None ≡ None → b ≡ false
not_some true n e = absurd (cc)
not_some false n e = refl

-- of octets of one length both have a number or none
same_none : (x y : List ℕ) → length x ≡ length y → number_at y 0 ≡ None → number_at x 0 ≡ None
same_none x y same none =
    ap (λ (b : Bool). cond b (Some (u32_at x 0)) None) (ap (leb 4) same ∙ not_some (leb 4 (length y)) (u32_at y 0) none)

-- ---- a piece comes

some_false : (b : Bool) → false ≡ true → b ≡ true
some_false b e = absurd (cc)

keeps_or : (o : Option ℕ) → o ≡ cond (is_none o) None o
keeps_or None = refl
keeps_or (Some n) = refl

pub front_after : (ps : Payloads) (n : ℕ) (x : List ℕ) → 0 < length ps → get_or ps n None ≡ None
    → front_operation (set ps n (Some x)) ≡ cond (is_none (front_operation ps)) (brought n x) (front_operation ps)
front_after [] n x some none = absurd (omega arith)
front_after (q ∷ qs) zero x some none =
    sym (ap (λ (o : Option (List ℕ)). cond (is_none (option_and_then (λ payload. number_at payload 0) o)) (number_at x 0) (option_and_then (λ payload. number_at payload 0) o)) none)
front_after (q ∷ qs) (suc n) x some none =
    keeps_or (front_operation (q ∷ qs))
    ∙ ap (λ (b : Bool). cond (is_none (front_operation (q ∷ qs))) (cond b (number_at x 0) None) (front_operation (q ∷ qs))) (sym (ne_eqb (suc n) 0 (λ e. absurd (omega arith))))

-- one that came before brings nothing new
pub front_again : (len : ℕ) (ps : Payloads) (n : ℕ) (x : List ℕ) → is_some (get_or ps n None) ≡ true → IfSome (get_or ps 0 None) (λ y. length y ≡ min 492 len) → (n ≡ 0 → length x ≡ min 492 len)
    → cond (is_none (front_operation ps)) (brought n x) (front_operation ps) ≡ front_operation ps
front_again len [] n x came first sized = absurd (cc)
front_again len (None ∷ qs) zero x came first sized = absurd (cc)
front_again len (Some y ∷ qs) zero x came first sized = by_test (number_at y 0) refl
  where
    by_test : (o : Option ℕ) → number_at y 0 ≡ o → cond (is_none o) (number_at x 0) o ≡ o
    by_test None none = same_none x y (sized refl ∙ sym first) none
    by_test (Some k) some = refl
front_again len (q ∷ qs) (suc n) x came first sized =
    ap (λ (b : Bool). cond (is_none (front_operation (q ∷ qs))) (cond b (number_at x 0) None) (front_operation (q ∷ qs))) (ne_eqb (suc n) 0 (λ e. absurd (omega arith)))
    ∙ sym (keeps_or (front_operation (q ∷ qs)))

-- ---- the whole

number_longer : (y rest : List ℕ) → 4 ≤ length y → number_at y 0 ≡ number_at (y ++ rest) 0
number_longer y rest long =
    let sum = length-append y rest in
    ap (λ (b : Bool). cond b (Some (u32_at y 0)) None) (le-leb 4 (length y) long)
    ∙ ap Some (sym (rw (get_or_append_left y rest 0 0 (omega arith), get_or_append_left y rest 0 1 (omega arith), get_or_append_left y rest 0 2 (omega arith), get_or_append_left y rest 0 3 (omega arith)) refl))
    ∙ sym (ap (λ (b : Bool). cond b (Some (u32_at (y ++ rest) 0)) None) (le-leb 4 (length (y ++ rest)) (omega arith)))

-- the front of a message that is all there has the message's operation
pub front_of_whole : (len : ℕ) (ps : Payloads) (message : List ℕ) → 0 < len → length ps ≡ piece_count len → IfSome (get_or ps 0 None) (λ y. length y ≡ min 492 len)
    → whole_payload ps ≡ Some message → front_operation ps ≡ number_at message 0
front_of_whole len [] message some places first whole = absurd (omega arith)
front_of_whole len (None ∷ rest) message some places first whole = absurd (cc)
front_of_whole len (Some y ∷ rest) message some places first whole = by_rest rest (whole_payload rest) refl places whole
  where
    by_rest : (rest : Payloads) (o : Option (List ℕ)) → whole_payload rest ≡ o → suc (length rest) ≡ piece_count len → before y o ≡ Some message → number_at y 0 ≡ number_at message 0
    by_rest rest None is places whole = absurd (cc)
    by_rest rest (Some more) is places whole =
        let same : y ++ more ≡ message = cc in
        elim (cases_lt (length y) 4) [
          | inl lt ↦ by_end rest is (omega arith) ∙ ap (λ (t : List ℕ). number_at t 0) same
          | inr ge ↦ number_longer y more ge ∙ ap (λ (t : List ℕ). number_at t 0) same
        ]
      where
        by_end : (rest : Payloads) → whole_payload rest ≡ Some more → length rest ≡ 0 → number_at y 0 ≡ number_at (y ++ more) 0
        by_end [] is none =
            let empty : [] ≡ more = cc in
            ap (λ (t : List ℕ). number_at t 0) (sym (append-nil y) ∙ ap (λ (t : List ℕ). y ++ t) empty)
        by_end (q ∷ qs) is none = absurd (omega arith)

pub or_none : (o : Option ℕ) → option_or o None ≡ o
or_none None = refl
or_none (Some n) = refl

-- what a piece brings, or what came before it, is what stands there with it
pub brought_or_there : (ps : Payloads) (n : ℕ) (x : List ℕ) → 0 < length ps → get_or ps n None ≡ None → option_or (brought n x) (front_operation ps) ≡ front_operation (set ps n (Some x))
brought_or_there [] n x some none = absurd (omega arith)
brought_or_there (q ∷ qs) zero x some none = ap (λ (o : Option (List ℕ)). option_or (number_at x 0) (option_and_then (λ payload. number_at payload 0) o)) none ∙ or_none (number_at x 0)
brought_or_there (q ∷ qs) (suc n) x some none =
    ap (λ (b : Bool). option_or (cond b (number_at x 0) None) (front_operation (q ∷ qs))) (ne_eqb (suc n) 0 (λ e. absurd (omega arith)))
