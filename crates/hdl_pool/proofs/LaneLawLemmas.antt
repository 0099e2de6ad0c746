-- What a piece leaves of the messages of its lane.
use Rattle.std.proofs.Common.{◌≡◌, ◌≢◌, ℕ, Bool, true, false, ◌&&◌, cond, eqb, ltb, List, [], ◌∷◌, ◌++◌, length, drop, find, Option, Some, None, is_some, refl, sym, ap, ◌∙◌, inl, inr}
use Rattle.std.specs.Prelude.{unwrap_or}
use Rattle.std.specs.Option.{option_or, option_map_or}
use Rattle.std.proofs.lemmas.Bool.{cases_Bool, eqb-true, eq-eqb}
use Rattle.std.proofs.lemmas.List.Folds.{find-append}
use Rattle.hdl_pool.specs.declared.piece.MessageKey.{MessageKey}
use Rattle.hdl_pool.specs.Partial.{Piece, Partial, is_of, nothing_of, whole}
use Rattle.hdl_pool.specs.Taking.{Fate, made_whole, kept, ignored, displaced, so_far, is_ignored, with_piece, after_piece, replace_partial, begin_partial, store_if_kept, take_piece}
use Rattle.hdl_pool.specs.Laws.{TakenIsSoFar, OthersStay}
use Rattle.hdl_pool.proofs.TakenLemmas.{after_piece_stays, taken_found, taken_missed, stored_missed}

-- ---- keys

is_of-own : (key : MessageKey) (p : Partial) → p.key ≡ key → is_of key p ≡ true
is_of-own key p own = rw (own, eq-eqb key.peer key.peer refl, eq-eqb key.session key.session refl, eq-eqb key.request key.request refl) refl

all_true : (a b c : Bool) → a && b && c ≡ true → (a ≡ true) × (b ≡ true) × (c ≡ true)
all_true true true true e = (refl, refl, refl)
all_true true true false e = absurd (cc)
all_true true false c e = absurd (cc)
all_true false b c e = absurd (cc)

own-is_of : (key : MessageKey) (p : Partial) → is_of key p ≡ true → p.key ≡ key
own-is_of key p passed =
    let parts = all_true (eqb p.key.peer key.peer) (eqb p.key.session key.session) (eqb p.key.request key.request) passed in
    let peer = eqb-true p.key.peer key.peer parts.0 in
    let session = eqb-true p.key.session key.session parts.1 in
    let request = eqb-true p.key.request key.request parts.2 in
    same p.key key peer session request
  where
    same : (a b : MessageKey) → a.peer ≡ b.peer → a.session ≡ b.session → a.request ≡ b.request → a ≡ b
    same a b peer session request = ap (λ (x : ℕ). record { peer = x; session = a.session; request = a.request }) peer ∙ ap (λ (x : ℕ). record { peer = b.peer; session = x; request = a.request }) session
        ∙ ap (λ (x : ℕ). record { peer = b.peer; session = b.session; request = x }) request

not_of : (key : MessageKey) (p : Partial) → p.key ≢ key → is_of key p ≡ false
not_of key p other =
    elim (cases_Bool (is_of key p)) [
      | inl passed ↦ absurd (other (own-is_of key p passed))
      | inr failed ↦ failed
    ]

-- a piece leaves its message the key
abbrev counts : Bool → Partial → Partial → Option (List ℕ) → Fate × Partial
counts b p more o = cond b (ignored, p) (option_map_or (λ message. (made_whole message, p)) o (kept, more))

key_counts : (b : Bool) (p more : Partial) (o : Option (List ℕ)) → more.key ≡ p.key → (counts b p more o).1.key ≡ p.key
key_counts true p more o same = refl
key_counts false p more None same = same
key_counts false p more (Some message) same = refl

key-after_piece : (p : Partial) (piece : Piece) → (after_piece p piece).1.key ≡ p.key
key-after_piece p piece = key_counts (is_ignored p piece) p (with_piece p piece) (whole (with_piece p piece)) refl

-- ---- the piece's own message

find_passes : (test : Partial → Bool) (lane : List Partial) (p : Partial) → find test lane ≡ Some p → test p ≡ true
find_passes test [] p found = absurd (cc)
find_passes test (q ∷ qs) p found = by_test (test q) refl found (λ below. find_passes test qs p below)
  where
    by_test : (t : Bool) → test q ≡ t → cond t (Some q) (find test qs) ≡ Some p → (find test qs ≡ Some p → test p ≡ true) → test p ≡ true
    by_test true e found below = let same : q ≡ p = cc in rw (← same) e
    by_test false e found below = below found

find_replaced : (key : MessageKey) (more : Partial) (lane : List Partial) (p : Partial) → find (is_of key) lane ≡ Some p → is_of key more ≡ true → find (is_of key) (replace_partial key more lane) ≡ Some more
find_replaced key more [] p found own = absurd (cc)
find_replaced key more (q ∷ qs) p found own = by_test (is_of key q) refl found (λ below. find_replaced key more qs p below own)
  where
    by_test : (t : Bool) → is_of key q ≡ t → cond t (Some q) (find (is_of key) qs) ≡ Some p → (find (is_of key) qs ≡ Some p → find (is_of key) (replace_partial key more qs) ≡ Some more) → find (is_of key) (replace_partial key more (q ∷ qs)) ≡ Some more
    by_test true e found below = rw (e, own) refl
    by_test false e found below = rw (e, e) (below found)

find_drop : (test : Partial → Bool) (lane : List Partial) → find test lane ≡ None → find test (drop 1 lane) ≡ None
find_drop test [] missed = refl
find_drop test (q ∷ qs) missed = by_test (test q) missed
  where
    by_test : (t : Bool) → cond t (Some q) (find test qs) ≡ None → find test qs ≡ None
    by_test true none = absurd (cc)
    by_test false none = none

find_last : (test : Partial → Bool) (lane : List Partial) (more : Partial) → find test lane ≡ None → test more ≡ true → find test (lane ++ more ∷ []) ≡ Some more
find_last test lane more missed own = find-append test lane (more ∷ []) ∙ rw (missed, own) refl

abbrev begun_if : Bool → List Partial → Partial → Fate × List Partial
begun_if b lane more = cond b (kept, lane ++ more ∷ []) (displaced, drop 1 lane ++ more ∷ [])

find_begun : (b : Bool) (test : Partial → Bool) (lane : List Partial) (more : Partial) → find test lane ≡ None → test more ≡ true → find test (begun_if b lane more).1 ≡ Some more
find_begun true test lane more missed own = find_last test lane more missed own
find_begun false test lane more missed own = find_last test (drop 1 lane) more (find_drop test lane missed) own

found_or : (o : Option Partial) (d : Partial) (p : Partial) → o ≡ Some p → unwrap_or o d ≡ p
found_or o d p e = rw e refl

settled_new : (lane : List Partial) (key : MessageKey) (fate : Fate) (more d : Partial) → find (is_of key) lane ≡ None → is_of key more ≡ true → (fate ≢ kept → more ≡ d)
    → unwrap_or (find (is_of key) (store_if_kept lane key fate more).1) d ≡ more
settled_new lane key kept more d missed own stays =
    rw (stored_missed lane key more missed) (found_or (find (is_of key) (begin_partial lane more).1) d more (find_begun (ltb (length lane) 4) (is_of key) lane more missed own))
settled_new lane key (made_whole message) more d missed own stays = rw missed (sym (stays (λ e. cc)))
settled_new lane key ignored more d missed own stays = rw missed (sym (stays (λ e. cc)))
settled_new lane key displaced more d missed own stays = rw missed (sym (stays (λ e. cc)))

taken_so_far : (lane : List Partial) (piece : Piece) (o : Option Partial) → find (is_of piece.key) lane ≡ o → so_far (take_piece lane piece).1 piece ≡ (after_piece (unwrap_or o (nothing_of piece.key piece.length)) piece).1
taken_so_far lane piece (Some p) found =
    let own : is_of piece.key (after_piece p piece).1 ≡ true = is_of-own piece.key (after_piece p piece).1 (key-after_piece p piece ∙ own-is_of piece.key p (find_passes (is_of piece.key) lane p found)) in
    rw (taken_found lane piece p found) (found_or (find (is_of piece.key) (replace_partial piece.key (after_piece p piece).1 lane)) (nothing_of piece.key piece.length) (after_piece p piece).1 (find_replaced piece.key (after_piece p piece).1 lane p found own))
taken_so_far lane piece None missed =
    let first = nothing_of piece.key piece.length in
    let own : is_of piece.key (after_piece (nothing_of piece.key piece.length) piece).1 ≡ true = is_of-own piece.key (after_piece (nothing_of piece.key piece.length) piece).1 (key-after_piece (nothing_of piece.key piece.length) piece) in
    rw (taken_missed lane piece (nothing_of piece.key piece.length) missed refl)
    (settled_new lane piece.key (after_piece (nothing_of piece.key piece.length) piece).0 (after_piece (nothing_of piece.key piece.length) piece).1 (nothing_of piece.key piece.length) missed own (λ other. after_piece_stays (nothing_of piece.key piece.length) piece other))

pub taken_is_so_far_lem : TakenIsSoFar
taken_is_so_far_lem lane piece = taken_so_far lane piece (find (is_of piece.key) lane) refl

-- ---- the others

find_other : (key other : MessageKey) (more : Partial) (lane : List Partial) → other ≢ key → is_of other more ≡ false → find (is_of other) (replace_partial key more lane) ≡ find (is_of other) lane
find_other key other more [] apart absent = refl
find_other key other more (q ∷ qs) apart absent = by_test (is_of key q) refl (find_other key other more qs apart absent)
  where
    by_test : (t : Bool) → is_of key q ≡ t → find (is_of other) (replace_partial key more qs) ≡ find (is_of other) qs → find (is_of other) (replace_partial key more (q ∷ qs)) ≡ find (is_of other) (q ∷ qs)
    by_test true e below =
        let foreign : is_of other q ≡ false = not_of other q (λ same. apart (sym same ∙ own-is_of key q e)) in
        rw (e, absent, foreign) refl
    by_test false e below = rw e (ap (λ (r : Option Partial). cond (is_of other q) (Some q) r) below)

or_none : (o : Option Partial) → option_or o None ≡ o
or_none None = refl
or_none (Some p) = refl

begun_other : (b : Bool) (test : Partial → Bool) (lane : List Partial) (more : Partial) → test more ≡ false → (begun_if b lane more).0 ≢ displaced → find test (begun_if b lane more).1 ≡ find test lane
begun_other true test lane more absent stays = find-append test lane (more ∷ []) ∙ rw absent (or_none (find test lane))
begun_other false test lane more absent stays = absurd (stays refl)

stored_other : (b : Bool) (lane : List Partial) (key other : MessageKey) (more : Partial) → other ≢ key → is_of other more ≡ false → (cond b (kept, replace_partial key more lane) (begin_partial lane more)).0 ≢ displaced
    → find (is_of other) (cond b (kept, replace_partial key more lane) (begin_partial lane more)).1 ≡ find (is_of other) lane
stored_other true lane key other more apart absent stays = find_other key other more lane apart absent
stored_other false lane key other more apart absent stays = begun_other (ltb (length lane) 4) (is_of other) lane more absent stays

settled_others : (lane : List Partial) (key other : MessageKey) (fate : Fate) (more : Partial) → other ≢ key → is_of other more ≡ false → (store_if_kept lane key fate more).0 ≢ displaced
    → find (is_of other) (store_if_kept lane key fate more).1 ≡ find (is_of other) lane
settled_others lane key other kept more apart absent stays = stored_other (is_some (find (is_of key) lane)) lane key other more apart absent stays
settled_others lane key other (made_whole message) more apart absent stays = refl
settled_others lane key other ignored more apart absent stays = refl
settled_others lane key other displaced more apart absent stays = refl

key-so_far : (lane : List Partial) (piece : Piece) (o : Option Partial) → find (is_of piece.key) lane ≡ o → (unwrap_or o (nothing_of piece.key piece.length)).key ≡ piece.key
key-so_far lane piece (Some p) found = own-is_of piece.key p (find_passes (is_of piece.key) lane p found)
key-so_far lane piece None missed = refl

pub others_stay_lem : OthersStay
others_stay_lem lane piece key apart stays =
    let own = key-after_piece (so_far lane piece) piece ∙ key-so_far lane piece (find (is_of piece.key) lane) refl in
    settled_others lane piece.key key (after_piece (so_far lane piece) piece).0 (after_piece (so_far lane piece) piece).1 apart (not_of key (after_piece (so_far lane piece) piece).1 (λ same. apart (sym same ∙ own))) stays
