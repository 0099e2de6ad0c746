-- What becomes of a piece, by where its message stands.
use Rattle.std.proofs.Common.{◌≡◌, ◌≢◌, ◌/◌, ℕ, zero, suc, ◌+◌, ◌<◌, ◌≤◌, Bool, true, false, cond, List, [], ◌∷◌, length, set, get_or, find, Option, Some, None, refl, sym, ap, ◌∙◌, arith}
use Rattle.std.specs.Prelude.{position, Result, Ok, Err, OnOk, OnErr}
use Rattle.std.specs.Option.{option_map_or}
use Rattle.std.proofs.lemmas.Bool.{eq-eqb, ltb-false}
use Rattle.std.proofs.lemmas.List.{append-nil, length-set, get_or-set_same, set-set, set-get_or}
use Rattle.std.proofs.lemmas.List.Quantifiers.{position-Some}
use Rattle.std.proofs.lemmas.List.Sums.{fails_before_first}
use Rattle.hdl_pool.specs.declared.piece.MessageKey.{MessageKey}
use Rattle.hdl_pool.specs.declared.taken.Taken.{Taken}
use Rattle.hdl_pool.specs.declared.taken.Taken.TheVariants.{Whole, Kept, Ignored, Displaced}
use Rattle.hdl_pool.specs.Partial.{Piece, Partial, IsPiece, is_of, nothing_of, whole}
use Rattle.hdl_pool.specs.Taking.{Fate, made_whole, kept, ignored, displaced, lane_at, is_ignored, with_piece, after_piece, replace_partial, begin_partial, store_partial, store_if_kept, take_piece, fate_of}
use Rattle.hdl_pool.specs.Cells.{cells_at, cell_at, contents, lanes_of, AreFours, holds}
use Rattle.hdl_pool.proofs.CellLemmas.{Cell, Lanes, lane-lanes_of, lanes_of-set, fours_set}

-- ---- the message that is found

-- the first cell of the key has the message that is found, and what is put there takes its place
first_is : (key : MessageKey) (b : List Cell) (i : ℕ) (p : Partial) → get_or b i None ≡ Some p → is_of key p ≡ true → ((k : ℕ) → k < i → holds key (get_or b k None) ≡ false)
    → (find (is_of key) (contents b) ≡ Some p) × ((more : Partial) → contents (set b i (Some more)) ≡ replace_partial key more (contents b))
first_is key [] i p at here before = absurd (cc)
first_is key (content ∷ b) zero p at here before = rw (at, here) (refl, λ more. refl)
first_is key (None ∷ b) (suc i) p at here before = first_is key b i p at here (λ k lt. before (suc k) (omega arith))
first_is key (Some q ∷ b) (suc i) p at here before =
    let below = first_is key b i p at here (λ k lt. before (suc k) (omega arith)) in
    let other : is_of key q ≡ false = before 0 (omega arith) in
    rw other (below.0, λ more. ap (λ (t : List Partial). q ∷ t) (below.1 more))

holds_some : (key : MessageKey) (content : Cell) (p : Partial) → content ≡ Some p → holds key content ≡ true → is_of key p ≡ true
holds_some key content p e test = rw e at test

pub found_is : (key : MessageKey) (b : List Cell) (i : ℕ) (p : Partial) → Some i ≡ position (holds key) b → Some p ≡ get_or b i None
    → (find (is_of key) (contents b) ≡ Some p) × ((more : Partial) → contents (set b i (Some more)) ≡ replace_partial key more (contents b))
found_is key b i p first at =
    let some = position-Some (holds key) b i None (sym first) in
    first_is key b i p (sym at) (holds_some key (get_or b i None) p (sym at) some.1) some.2

-- the found cell isn't empty
pub found_some : (key : MessageKey) (b : List Cell) (i : ℕ) → Some i ≡ position (holds key) b → get_or b i None ≢ None
found_some key b i first none =
    let some = position-Some (holds key) b i None (sym first) in
    let no_one : holds key (get_or b i None) ≡ false = rw none refl in
    absurd (cc)

not_some : (b : Bool) (i : ℕ) → cond b (Some i) None ≡ None → b ≡ false
not_some true i e = absurd (cc)
not_some false i e = refl

none_is : (key : MessageKey) (b : List Cell) → ((k : ℕ) → k < length b → holds key (get_or b k None) ≡ false) → find (is_of key) (contents b) ≡ None
none_is key [] before = refl
none_is key (None ∷ b) before = none_is key b (λ k lt. before (suc k) (omega arith))
none_is key (Some p ∷ b) before =
    let other : is_of key p ≡ false = before 0 (omega arith) in
    rw other (none_is key b (λ k lt. before (suc k) (omega arith)))

pub missed_is : (key : MessageKey) (b : List Cell) → None ≡ position (holds key) b → find (is_of key) (contents b) ≡ None
missed_is key b none =
    let past = ltb-false _ _ (not_some _ _ (sym none)) in
    none_is key b (λ k lt. fails_before_first (holds key) b k None (omega (arith, past)))

-- ---- a piece and its message

-- only a piece that is kept changes its message
abbrev ends : Partial → Partial → Option (List ℕ) → Fate × Partial
ends p more o = option_map_or (λ message. (made_whole message, p)) o (kept, more)

grown_or : (p more : Partial) (o : Option (List ℕ)) → (ends p more o).0 ≢ kept → (ends p more o).1 ≡ p
grown_or p more None other = absurd (other refl)
grown_or p more (Some message) other = refl

abbrev counts : Bool → Partial → Partial → Option (List ℕ) → Fate × Partial
counts b p more o = cond b (ignored, p) (ends p more o)

grown_if : (b : Bool) (p more : Partial) (o : Option (List ℕ)) → (counts b p more o).0 ≢ kept → (counts b p more o).1 ≡ p
grown_if true p more o other = refl
grown_if false p more o other = grown_or p more o other

pub after_piece_stays : (p : Partial) (piece : Piece) → (after_piece p piece).0 ≢ kept → (after_piece p piece).1 ≡ p
after_piece_stays p piece other = grown_if (is_ignored p piece) p (with_piece p piece) (whole (with_piece p piece)) other

-- ---- a piece of a message that is there

replaced_same : (key : MessageKey) (p : Partial) (lane : List Partial) → find (is_of key) lane ≡ Some p → replace_partial key p lane ≡ lane
replaced_same key p [] found = refl
replaced_same key p (q ∷ qs) found = by_test (is_of key q) refl found (λ below. replaced_same key p qs below)
  where
    by_test : (t : Bool) → is_of key q ≡ t → cond t (Some q) (find (is_of key) qs) ≡ Some p → (find (is_of key) qs ≡ Some p → replace_partial key p qs ≡ qs) → replace_partial key p (q ∷ qs) ≡ q ∷ qs
    by_test true e found below = let same : q ≡ p = cc in rw e (ap (λ (r : Partial). r ∷ qs) (sym same))
    by_test false e found below = rw e (ap (λ (t : List Partial). q ∷ t) (below found))

stored_found : (lane : List Partial) (key : MessageKey) (p more : Partial) → find (is_of key) lane ≡ Some p → store_partial lane key more ≡ (kept, replace_partial key more lane)
stored_found lane key p more found = rw found refl

-- the lane has the message as the piece leaves it
settled_found : (lane : List Partial) (key : MessageKey) (p more : Partial) (fate : Fate) → find (is_of key) lane ≡ Some p → (fate ≢ kept → more ≡ p) → store_if_kept lane key fate more ≡ (fate, replace_partial key more lane)
settled_found lane key p more kept found stays = stored_found lane key p more found
settled_found lane key p more (made_whole message) found stays =
    let same = stays (λ e. cc) in rw same (ap (λ (t : List Partial). (made_whole message, t)) (sym (replaced_same key p lane found)))
settled_found lane key p more ignored found stays =
    let same = stays (λ e. cc) in rw same (ap (λ (t : List Partial). (ignored, t)) (sym (replaced_same key p lane found)))
settled_found lane key p more displaced found stays =
    let same = stays (λ e. cc) in rw same (ap (λ (t : List Partial). (displaced, t)) (sym (replaced_same key p lane found)))

pub taken_found : (lane : List Partial) (piece : Piece) (p : Partial) → find (is_of piece.key) lane ≡ Some p → take_piece lane piece ≡ ((after_piece p piece).0, replace_partial piece.key (after_piece p piece).1 lane)
taken_found lane piece p found = rw found (settled_found lane piece.key p (after_piece p piece).1 (after_piece p piece).0 found (λ other. after_piece_stays p piece other))

refilled : (c mid new : Lanes) (lane place : ℕ) (content : Cell) → lane < 64 → AreFours c → mid ≡ set c lane (set (cells_at c lane) place None)
    → new ≡ set mid lane (set (cells_at mid lane) place content) → new ≡ set c lane (set (cells_at c lane) place content)
refilled c mid new lane place content lt fours out back =
    let here : cells_at mid lane ≡ set (cells_at c lane) place None = rw out (get_or-set_same c lane (set (cells_at c lane) place None) [] (omega (arith, fours.lanes))) in
    back ∙ rw (here, set-set (cells_at c lane) place None content, out) (set-set c lane (set (cells_at c lane) place None) (set (cells_at c lane) place content))

pub refilled_fours : (c mid new : Lanes) (lane place : ℕ) (content : Cell) → lane < 64 → AreFours c → mid ≡ set c lane (set (cells_at c lane) place None)
    → new ≡ set mid lane (set (cells_at mid lane) place content) → AreFours new
refilled_fours c mid new lane place content lt fours out back =
    rw (refilled c mid new lane place content lt fours out back) (fours_set c lane (set (cells_at c lane) place content) fours (length-set (cells_at c lane) place content ∙ fours.four lane lt))

pub refilled_same : (c mid new : Lanes) (lane place : ℕ) (p more : Partial) → lane < 64 → AreFours c → mid ≡ set c lane (set (cells_at c lane) place None)
    → new ≡ set mid lane (set (cells_at mid lane) place (Some more)) → Some p ≡ cell_at c lane place → more ≡ p → new ≡ c
refilled_same c mid new lane place p more lt fours out back was same =
    refilled c mid new lane place (Some more) lt fours out back ∙ rw (same, was, set-get_or (cells_at c lane) place None) (set-get_or c lane [])

pub found_fate : (c : Lanes) (lane place : ℕ) (piece : Piece) (p : Partial) → lane < 64 → AreFours c → Some place ≡ position (holds piece.key) (cells_at c lane) → Some p ≡ cell_at c lane place
    → (after_piece p piece).0 ≡ (take_piece (lane_at (lanes_of c) lane) piece).0
found_fate c lane place piece p lt fours first was =
    let start = lane-lanes_of c lane (omega (arith, fours.lanes)) in
    let found = (found_is piece.key (cells_at c lane) place p first was).0 in
    rw (start, taken_found (contents (cells_at c lane)) piece p found) refl

pub found_lanes : (c mid new : Lanes) (lane place : ℕ) (piece : Piece) (p more : Partial) → lane < 64 → AreFours c → Some place ≡ position (holds piece.key) (cells_at c lane) → Some p ≡ cell_at c lane place
    → mid ≡ set c lane (set (cells_at c lane) place None) → new ≡ set mid lane (set (cells_at mid lane) place (Some more)) → more ≡ (after_piece p piece).1
    → lanes_of new ≡ set (lanes_of c) lane (take_piece (lane_at (lanes_of c) lane) piece).1
found_lanes c mid new lane place piece p more lt fours first was out back is =
    let start = lane-lanes_of c lane (omega (arith, fours.lanes)) in
    let found = found_is piece.key (cells_at c lane) place p first was in
    let after : contents (set (cells_at c lane) place (Some more)) ≡ replace_partial piece.key (after_piece p piece).1 (contents (cells_at c lane)) = rw (← is) (found.1 more) in
    ap lanes_of (refilled c mid new lane place (Some more) lt fours out back) ∙ lanes_of-set c lane (set (cells_at c lane) place (Some more))
    ∙ rw (after, start, taken_found (contents (cells_at c lane)) piece p found.0) refl

-- ---- a piece of a message that isn't there

pub stored_missed : (lane : List Partial) (key : MessageKey) (more : Partial) → find (is_of key) lane ≡ None → store_partial lane key more ≡ begin_partial lane more
stored_missed lane key more missed = rw missed refl

pub taken_missed : (lane : List Partial) (piece : Piece) (first : Partial) → find (is_of piece.key) lane ≡ None → first ≡ nothing_of piece.key piece.length → take_piece lane piece ≡ store_if_kept lane piece.key (after_piece first piece).0 (after_piece first piece).1
taken_missed lane piece first missed new = rw (missed, new) refl

pub missed_kept : (c : Lanes) (lane : ℕ) (piece : Piece) (first more : Partial) → lane < 64 → AreFours c → None ≡ position (holds piece.key) (cells_at c lane) → first ≡ nothing_of piece.key piece.length
    → kept ≡ (after_piece first piece).0 → more ≡ (after_piece first piece).1 → take_piece (lane_at (lanes_of c) lane) piece ≡ begin_partial (lane_at (lanes_of c) lane) more
missed_kept c lane piece first more lt fours none new is left =
    let start = lane-lanes_of c lane (omega (arith, fours.lanes)) in
    let missed : find (is_of piece.key) (lane_at (lanes_of c) lane) ≡ None = rw start (missed_is piece.key (cells_at c lane) none) in
    taken_missed (lane_at (lanes_of c) lane) piece first missed new ∙ rw (← is, ← left) (stored_missed (lane_at (lanes_of c) lane) piece.key more missed)

settled_other : (lane : List Partial) (key : MessageKey) (fate : Fate) (more : Partial) → fate ≢ kept → store_if_kept lane key fate more ≡ (fate, lane)
settled_other lane key kept more other = absurd (other refl)
settled_other lane key (made_whole message) more other = refl
settled_other lane key ignored more other = refl
settled_other lane key displaced more other = refl

pub missed_other : (c : Lanes) (lane : ℕ) (piece : Piece) (first : Partial) (fate : Fate) → lane < 64 → AreFours c → None ≡ position (holds piece.key) (cells_at c lane) → first ≡ nothing_of piece.key piece.length
    → fate ≡ (after_piece first piece).0 → fate ≢ kept → (fate ≡ (take_piece (lane_at (lanes_of c) lane) piece).0) × (lanes_of c ≡ set (lanes_of c) lane (take_piece (lane_at (lanes_of c) lane) piece).1)
missed_other c lane piece first fate lt fours none new is other =
    let start = lane-lanes_of c lane (omega (arith, fours.lanes)) in
    let missed : find (is_of piece.key) (lane_at (lanes_of c) lane) ≡ None = rw start (missed_is piece.key (cells_at c lane) none) in
    let same : take_piece (lane_at (lanes_of c) lane) piece ≡ (fate, lane_at (lanes_of c) lane) =
    taken_missed (lane_at (lanes_of c) lane) piece first missed new ∙ rw (← is) (settled_other (lane_at (lanes_of c) lane) piece.key fate (after_piece first piece).1 other) in
    rw same (refl, sym (set-get_or (lanes_of c) lane []))

-- the one piece of a message is the message
one_grown : (piece : Piece) → IsPiece piece → piece.length ≤ 492 → made_whole piece.payload ≡ (after_piece (nothing_of piece.key piece.length) piece).0
one_grown piece fits short =
    let first : piece.number ≡ 0 = omega (arith, fits.begins) in
    let count : (piece.length + 491) / 492 ≡ 1 = omega (arith, fits.begins) in
    rw (eq-eqb piece.length piece.length refl, count, first, append-nil piece.payload) refl

pub missed_one : (c : Lanes) (lane : ℕ) (piece : Piece) → lane < 64 → AreFours c → None ≡ position (holds piece.key) (cells_at c lane) → IsPiece piece → piece.length ≤ 492
    → (made_whole piece.payload ≡ (take_piece (lane_at (lanes_of c) lane) piece).0) × (lanes_of c ≡ set (lanes_of c) lane (take_piece (lane_at (lanes_of c) lane) piece).1)
missed_one c lane piece lt fours none fits short =
    missed_other c lane piece (nothing_of piece.key piece.length) (made_whole piece.payload) lt fours none refl (one_grown piece fits short) (λ e. cc)

pub fate-not_kept : (t : Taken) → t ≢ Kept → fate_of t ≢ kept
fate-not_kept (Whole message) other e = absurd (cc)
fate-not_kept Kept other e = absurd (other refl)
fate-not_kept Ignored other e = absurd (cc)
fate-not_kept Displaced other e = absurd (cc)

-- ---- a fact of one outcome

pub on_ok : {T E P Q : Type 0} (r : Result T E) → (P → Q) → OnOk r P → OnOk r Q
on_ok (Ok x) f p = f p
on_ok (Err e) f p = tt

pub on_err : {T E P Q : Type 0} (r : Result T E) → (P → Q) → OnErr r P → OnErr r Q
on_err (Ok x) f p = tt
on_err (Err e) f p = f p
