-- A partial message is what came of it.
use Rattle.std.proofs.Common.{◌≡◌, ◌≢◌, ℕ, suc, ◌<◌, ◌≤◌, Bool, true, false, not, cond, ◌||◌, eqb, List, [], ◌∷◌, ◌++◌, length, set, get_or, drop, replicate, find, filter, Option, Some, None, is_some, refl, sym, ap, ◌∙◌, arith, inl, inr}
use Rattle.std.specs.Prelude.{option_map}
use Rattle.std.specs.Option.{option_or, option_map_or}
use Rattle.std.proofs.lemmas.Bool.{cases_Bool, cases_eq, cases_lt, eqb-true, eq-eqb, lt-ltb, le-ltb}
use Rattle.std.proofs.lemmas.List.{length-set, length-replicate, length-drop, length_push, get_or-set_same, get_or-set_other, get_or-replicate, ext_get_or}
use Rattle.std.proofs.lemmas.List.Folds.{find-append}
use Rattle.std.proofs.lemmas.List.FromFn.{get_or-map-range_with_len, length-map-range_with_len}
use Rattle.hdl_frame.specs.Pieces.{piece_count}
use Rattle.hdl_frame.specs.Whole.{Piece as Numbered, payload_of, payloads_of, message_of}
use Rattle.hdl_frame.proofs.WholeLemmas.{message_is_joined_lem, joined_is_message_lem}
use Rattle.hdl_pool.specs.declared.piece.MessageKey.{MessageKey}
use Rattle.hdl_pool.specs.Partial.{Piece, Partial, IsPiece, is_of, payload_at, whole}
use Rattle.hdl_pool.specs.Taking.{Fate, made_whole, kept, ignored, displaced, so_far, is_ignored, with_piece, after_piece, replace_partial, begin_partial, store_if_kept}
use Rattle.hdl_pool.specs.Laws.{numbered_piece, collect, NothingCame, KeptIsCollected, RepeatedIsIgnored, WholeIsMessage, MessageIsWhole, FreedIsGone, AtMostFour}

-- ---- one more piece

abbrev has_number : ℕ → Numbered → Bool
has_number k q = eqb q.number k

payload_of-push : (pieces : List Numbered) (p : Numbered) (k : ℕ) → payload_of (pieces ++ p ∷ []) k ≡ option_map (λ (q : Numbered). q.payload) (option_or (find (has_number k) pieces) (cond (eqb p.number k) (Some p) None))
payload_of-push pieces p k = ap (option_map (λ (q : Numbered). q.payload)) (find-append (has_number k) pieces (p ∷ []))

or_none : (o : Option Numbered) → option_or o None ≡ o
or_none None = refl
or_none (Some q) = refl

push_other : (pieces : List Numbered) (p : Numbered) (k : ℕ) → p.number ≢ k → payload_of (pieces ++ p ∷ []) k ≡ payload_of pieces k
push_other pieces p k other =
    elim (cases_Bool (eqb p.number k)) [
      | inl same ↦ absurd (other (eqb-true p.number k same))
      | inr differs ↦ payload_of-push pieces p k ∙ rw differs (ap (option_map (λ (q : Numbered). q.payload)) (or_none (find (has_number k) pieces)))
    ]

map_some : (o : Option Numbered) (p : Option Numbered) (payload : List ℕ) → option_map (λ (q : Numbered). q.payload) o ≡ Some payload → option_map (λ (q : Numbered). q.payload) (option_or o p) ≡ Some payload
map_some None p payload e = absurd (cc)
map_some (Some q) p payload e = e

map_none : (o : Option Numbered) (p : Numbered) → option_map (λ (q : Numbered). q.payload) o ≡ None → option_map (λ (q : Numbered). q.payload) (option_or o (Some p)) ≡ Some p.payload
map_none None p e = refl
map_none (Some q) p e = absurd (cc)

push_repeated : (pieces : List Numbered) (p : Numbered) (k : ℕ) (payload : List ℕ) → payload_of pieces k ≡ Some payload → payload_of (pieces ++ p ∷ []) k ≡ Some payload
push_repeated pieces p k payload came = payload_of-push pieces p k ∙ map_some (find (has_number k) pieces) (cond (eqb p.number k) (Some p) None) payload came

push_new : (pieces : List Numbered) (p : Numbered) → payload_of pieces p.number ≡ None → payload_of (pieces ++ p ∷ []) p.number ≡ Some p.payload
push_new pieces p new = payload_of-push pieces p p.number ∙ rw (eq-eqb p.number p.number refl) (map_none (find (has_number p.number) pieces) p new)

-- ---- what came

payloads_at : (pieces : List Numbered) (len k : ℕ) → k < piece_count len → get_or (payloads_of pieces len) k None ≡ payload_of pieces k
payloads_at pieces len k lt = get_or-map-range_with_len (payload_of pieces) 0 (piece_count len) k k None lt (omega arith)

length-payloads : (pieces : List Numbered) (len : ℕ) → length (payloads_of pieces len) ≡ piece_count len
length-payloads pieces len = length-map-range_with_len (payload_of pieces) 0 (piece_count len)

payloads_of-new : (pieces : List Numbered) (p : Numbered) (len : ℕ) → p.number < piece_count len → payload_of pieces p.number ≡ None
    → set (payloads_of pieces len) p.number (Some p.payload) ≡ payloads_of (pieces ++ p ∷ []) len
payloads_of-new pieces p len lt new =
    let lens = length-set (payloads_of pieces len) p.number (Some p.payload) in
    let lens_old = length-payloads pieces len in
    let lens_new = length-payloads (pieces ++ p ∷ []) len in
    ext_get_or None (set (payloads_of pieces len) p.number (Some p.payload)) (payloads_of (pieces ++ p ∷ []) len) (omega arith) (λ i within. at i (omega arith))
  where
    at : (i : ℕ) → i < piece_count len → get_or (set (payloads_of pieces len) p.number (Some p.payload)) i None ≡ get_or (payloads_of (pieces ++ p ∷ []) len) i None
    at i inside =
        elim (cases_eq i p.number) [
          | inl same ↦ ap (λ (k : ℕ). get_or (set (payloads_of pieces len) p.number (Some p.payload)) k None) same ∙ get_or-set_same (payloads_of pieces len) p.number (Some p.payload) None (omega (arith, length-payloads pieces len))
              ∙ sym (ap (λ (k : ℕ). get_or (payloads_of (pieces ++ p ∷ []) len) k None) same ∙ payloads_at (pieces ++ p ∷ []) len p.number lt ∙ push_new pieces p new)
          | inr other ↦ get_or-set_other (payloads_of pieces len) p.number i (Some p.payload) None other ∙ payloads_at pieces len i inside
              ∙ sym (payloads_at (pieces ++ p ∷ []) len i inside ∙ push_other pieces p i (λ e. other (sym e)))
        ]

payloads_of-repeated : (pieces : List Numbered) (p : Numbered) (len : ℕ) (payload : List ℕ) → payload_of pieces p.number ≡ Some payload → payloads_of pieces len ≡ payloads_of (pieces ++ p ∷ []) len
payloads_of-repeated pieces p len payload came =
    let lens_old = length-payloads pieces len in
    let lens_new = length-payloads (pieces ++ p ∷ []) len in
    ext_get_or None (payloads_of pieces len) (payloads_of (pieces ++ p ∷ []) len) (omega arith) (λ i within. at i (omega arith))
  where
    at : (i : ℕ) → i < piece_count len → get_or (payloads_of pieces len) i None ≡ get_or (payloads_of (pieces ++ p ∷ []) len) i None
    at i inside =
        elim (cases_eq i p.number) [
          | inl same ↦ payloads_at pieces len i inside ∙ ap (payload_of pieces) same ∙ came ∙ sym (payloads_at (pieces ++ p ∷ []) len i inside ∙ ap (payload_of (pieces ++ p ∷ [])) same ∙ push_repeated pieces p p.number payload came)
          | inr other ↦ payloads_at pieces len i inside ∙ sym (payloads_at (pieces ++ p ∷ []) len i inside ∙ push_other pieces p i (λ e. other (sym e)))
        ]

pub nothing_came_lem : NothingCame
nothing_came_lem key len =
    let lens : length (replicate {A = Option (List ℕ)} (piece_count len) None) ≡ piece_count len = length-replicate {A = Option (List ℕ)} (piece_count len) None in
    let lens_none = length-payloads [] len in
    let same : replicate (piece_count len) None ≡ payloads_of [] len =
    ext_get_or None (replicate (piece_count len) None) (payloads_of [] len) (omega arith)
    (λ i within. get_or-replicate (piece_count len) i None None (omega arith) ∙ sym (payloads_at [] len i (omega arith))) in
    ap (λ (t : List (Option (List ℕ))). record { key = key; length = len; pieces = t }) same

-- ---- a piece that grows it

abbrev ends : Partial → Partial → Option (List ℕ) → Fate × Partial
ends p more o = option_map_or (λ message. (made_whole message, p)) o (kept, more)

abbrev counts : Bool → Partial → Partial → Option (List ℕ) → Fate × Partial
counts b p more o = cond b (ignored, p) (ends p more o)

kept_counts : (b : Bool) (p more : Partial) (o : Option (List ℕ)) → (counts b p more o).0 ≡ kept → (b ≡ false) × ((counts b p more o).1 ≡ more)
kept_counts true p more o e = absurd (cc)
kept_counts false p more None e = (refl, refl)
kept_counts false p more (Some message) e = absurd (cc)

whole_counts : (b : Bool) (p more : Partial) (o : Option (List ℕ)) (message : List ℕ) → (counts b p more o).0 ≡ made_whole message → (b ≡ false) × (o ≡ Some message)
whole_counts true p more o message e = absurd (cc)
whole_counts false p more None message e = absurd (cc)
whole_counts false p more (Some other) message e = (refl, cc)

or_false : (a b : Bool) → a || b ≡ false → b ≡ false
or_false true b e = absurd (cc)
or_false false b e = e

not_some : (o : Option (List ℕ)) → is_some o ≡ false → o ≡ None
not_some None e = refl
not_some (Some payload) e = absurd (cc)

number_within : (piece : Piece) → IsPiece piece → piece.number < piece_count piece.length
number_within piece fits = omega (arith, fits.begins)

abbrev so : List Numbered → Piece → Partial
so pieces piece = collect piece.key piece.length pieces

new_of : (pieces : List Numbered) (piece : Piece) → IsPiece piece → is_ignored (so pieces piece) piece ≡ false → payload_of pieces piece.number ≡ None
new_of pieces piece fits counted =
    sym (payloads_at pieces piece.length piece.number (number_within piece fits)) ∙ not_some (payload_at (so pieces piece) piece.number) (or_false (not (eqb piece.length piece.length)) (is_some (payload_at (so pieces piece) piece.number)) counted)

with_new : (pieces : List Numbered) (piece : Piece) → IsPiece piece → payload_of pieces piece.number ≡ None → with_piece (so pieces piece) piece ≡ so (pieces ++ numbered_piece piece ∷ []) piece
with_new pieces piece fits new =
    ap (λ (t : List (Option (List ℕ))). record { key = piece.key; length = piece.length; pieces = t }) (payloads_of-new pieces (numbered_piece piece) piece.length (number_within piece fits) new)

pub kept_is_collected_lem : KeptIsCollected
kept_is_collected_lem pieces piece fits is =
    let both = kept_counts (is_ignored (so pieces piece) piece) (so pieces piece) (with_piece (so pieces piece) piece) (whole (with_piece (so pieces piece) piece)) is in
    both.1 ∙ with_new pieces piece fits (new_of pieces piece fits both.0)

pub whole_is_message_lem : WholeIsMessage
whole_is_message_lem pieces piece message fits sized is =
    let both = whole_counts (is_ignored (so pieces piece) piece) (so pieces piece) (with_piece (so pieces piece) piece) (whole (with_piece (so pieces piece) piece)) message is in
    let came : message_of (pieces ++ numbered_piece piece ∷ []) piece.length ≡ Some message = sym (ap whole (with_new pieces piece fits (new_of pieces piece fits both.0))) ∙ both.1 in
    joined_is_message_lem (pieces ++ numbered_piece piece ∷ []) piece.length message sized came

not_ignored : (pieces : List Numbered) (piece : Piece) → IsPiece piece → payload_of pieces piece.number ≡ None → is_ignored (so pieces piece) piece ≡ false
not_ignored pieces piece fits new =
    rw (eq-eqb piece.length piece.length refl, payloads_at pieces piece.length piece.number (number_within piece fits), new) refl

pub message_is_whole_lem : MessageIsWhole
message_is_whole_lem pieces piece message fits new made =
    let came : whole (with_piece (so pieces piece) piece) ≡ Some message = ap whole (with_new pieces piece fits new) ∙ message_is_joined_lem (pieces ++ numbered_piece piece ∷ []) piece.length message made in
    ap (λ (b : Bool). (counts b (so pieces piece) (with_piece (so pieces piece) piece) (whole (with_piece (so pieces piece) piece))).0) (not_ignored pieces piece fits new)
    ∙ ap (λ (o : Option (List ℕ)). (ends (so pieces piece) (with_piece (so pieces piece) piece) o).0) came

pub repeated_is_ignored_lem : RepeatedIsIgnored
repeated_is_ignored_lem pieces piece payload fits came =
    let repeated : is_ignored (so pieces piece) piece ≡ true = rw (eq-eqb piece.length piece.length refl, payloads_at pieces piece.length piece.number (number_within piece fits), came) refl in
    ap (λ (b : Bool). counts b (so pieces piece) (with_piece (so pieces piece) piece) (whole (with_piece (so pieces piece) piece))) repeated
    ∙ ap (λ (t : List (Option (List ℕ))). (ignored, record { key = piece.key; length = piece.length; pieces = t })) (payloads_of-repeated pieces (numbered_piece piece) piece.length payload came)

-- ---- a lane

left_step : (test : Partial → Bool) (p : Partial) (ps : List Partial) (b : Bool) → test p ≡ b → find test ps ≡ None → find test (cond (not b) (p ∷ ps) ps) ≡ None
left_step test p ps true e below = below
left_step test p ps false e below = rw e below

none_left : (test : Partial → Bool) (ps : List Partial) → find test (filter (λ p. not (test p)) ps) ≡ None
none_left test [] = refl
none_left test (p ∷ ps) = left_step test p (filter (λ q. not (test q)) ps) (test p) refl (none_left test ps)

pub freed_is_gone_lem : FreedIsGone
freed_is_gone_lem lane key = none_left (is_of key) lane

length-replaced : (key : MessageKey) (more : Partial) (lane : List Partial) → length (replace_partial key more lane) ≡ length lane
length-replaced key more [] = refl
length-replaced key more (p ∷ ps) = by_test (is_of key p) refl (length-replaced key more ps)
  where
    by_test : (t : Bool) → is_of key p ≡ t → length (replace_partial key more ps) ≡ length ps → length (replace_partial key more (p ∷ ps)) ≡ suc (length ps)
    by_test true e below = rw e refl
    by_test false e below = rw e (ap suc below)

begun_four : (lane : List Partial) (first : Partial) → length lane ≤ 4 → length (begin_partial lane first).1 ≤ 4
begun_four lane first le =
    elim (cases_lt (length lane) 4) [
      | inl lt ↦ rw (lt-ltb (length lane) 4 lt) (omega (arith, length_push lane first))
      | inr ge ↦ rw (le-ltb (length lane) 4 ge) (omega (arith, length_push (drop 1 lane) first, length-drop 1 lane))
    ]

stored_if : (b : Bool) (lane : List Partial) (key : MessageKey) (more : Partial) → length lane ≤ 4 → length (cond b (kept, replace_partial key more lane) (begin_partial lane more)).1 ≤ 4
stored_if true lane key more le = omega (arith, length-replaced key more lane)
stored_if false lane key more le = begun_four lane more le

settled_four : (lane : List Partial) (key : MessageKey) (fate : Fate) (more : Partial) → length lane ≤ 4 → length (store_if_kept lane key fate more).1 ≤ 4
settled_four lane key kept more le = stored_if (is_some (find (is_of key) lane)) lane key more le
settled_four lane key (made_whole message) more le = le
settled_four lane key ignored more le = le
settled_four lane key displaced more le = le

pub at_most_four_lem : AtMostFour
at_most_four_lem lane piece le = settled_four lane piece.key (after_piece (so_far lane piece) piece).0 (after_piece (so_far lane piece) piece).1 le
