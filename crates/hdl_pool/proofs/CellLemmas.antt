-- Cells of a lane that are written one after the other.
use Rattle.std.proofs.Common.{◌≡◌, ℕ, ◌+◌, ◌<◌, ◌≤◌, Bool, true, false, cond, List, [], ◌∷◌, ◌++◌, length, map, set, get_or, take, drop, replicate, Option, Some, None, is_some, refl, sym, ap, ◌∙◌, append_assoc, arith, inl, inr}
use Rattle.std.specs.Prelude.{position}
use Rattle.std.proofs.lemmas.Bool.{cases_eq, lt-ltb, le-ltb}
use Rattle.std.proofs.lemmas.List.{length-set, length-map, length-take-le, get_or-set_same, get_or-set_other, get_or-map, get_or-replicate, set-set, set-get_or, set_at, get_or_at, map-set, map-append, take_all, drop_all, drop_more, take_more, take-set, drop-set, append-nil, take-append-drop, drop-append-le, length-append}
use Rattle.std.proofs.lemmas.List.Elements.{filter_map-append}
use Rattle.std.proofs.lemmas.List.Sums.{position_or_len_is}
use Rattle.hdl_pool.specs.declared.piece.MessageKey.{MessageKey}
use Rattle.hdl_pool.specs.Partial.{Partial, is_of}
use Rattle.hdl_pool.specs.Taking.{lane_at, begin_partial, free_partial, kept, displaced}
use Rattle.hdl_pool.specs.Cells.{cells_at, cell_at, contents, lanes_of, AreFours, holds}

abbrev pub Cell : Type 0
Cell = Option Partial

abbrev pub Lanes : Type 0
Lanes = List (List (Option Partial))

-- ---- the lane as its cells

pub lane-lanes_of : (c : Lanes) (lane : ℕ) → lane < length c → lane_at (lanes_of c) lane ≡ contents (cells_at c lane)
lane-lanes_of c lane lt = get_or-map contents c lane [] [] lt

pub lanes_of-set : (c : Lanes) (lane : ℕ) (b : List Cell) → lanes_of (set c lane b) ≡ set (lanes_of c) lane (contents b)
lanes_of-set c lane b = map-set contents c lane b

pub fours_set : (c : Lanes) (lane : ℕ) (b : List Cell) → AreFours c → length b ≡ 4 → AreFours (set c lane b)
fours_set c lane b fours four =
    record {
      lanes = length-set c lane b ∙ fours.lanes;
      four = λ k lt.
          elim (cases_eq k lane) [
            | inl same ↦ rw same (ap length (get_or-set_same c lane b [] (omega (arith, fours.lanes))) ∙ four)
            | inr other ↦ ap length (get_or-set_other c lane k b [] other) ∙ fours.four k lt
          ];
    }

pub fours_new : AreFours (replicate 64 (replicate 4 None))
fours_new = record { lanes = refl; four = λ lane lt. ap length (get_or-replicate 64 lane (replicate 4 None) [] lt) }

-- ---- the first cell that passes

pub position_is : {X : Type 0} (p : X → Bool) (xs : List X) (i : ℕ) (d : X) → i < length xs → ((k : ℕ) → k < i → p (get_or xs k d) ≡ false) → p (get_or xs i d) ≡ true → Some i ≡ position p xs
position_is p xs i d lt before here =
    let first = position_or_len_is p xs i d (omega arith) before (λ _. here) in
    rw (first, lt-ltb i (length xs) lt) refl

pub position_none : {X : Type 0} (p : X → Bool) (xs : List X) (d : X) → ((k : ℕ) → k < length xs → p (get_or xs k d) ≡ false) → None ≡ position p xs
position_none p xs d before =
    let first = position_or_len_is p xs (length xs) d (omega arith) before (λ lt. absurd (omega arith)) in
    rw (first, le-ltb (length xs) (length xs) (omega arith)) refl

-- ---- cells that are rewritten up to one of them

abbrev pub written_to : (Cell → Cell) → ℕ → List Cell → List Cell
written_to f i b = map f (take i b) ++ drop i b

length-front : (f : Cell → Cell) (i : ℕ) (b : List Cell) → i < length b → length (map f (take i b)) ≡ i
length-front f i b lt = length-map (take i b) f ∙ length-take-le i b (omega arith)

written_at : (f : Cell → Cell) (i : ℕ) (b : List Cell) → i < length b → get_or (written_to f i b) i None ≡ get_or b i None
written_at f i b lt = rw (drop_more b i None lt) (get_or_at (map f (take i b)) (get_or b i None) (drop (i + 1) b) None i (length-front f i b lt))

written_more : (f : Cell → Cell) (i : ℕ) (b : List Cell) → i < length b → set (written_to f i b) i (f (get_or b i None)) ≡ written_to f (i + 1) b
written_more f i b lt =
    let step : set (map f (take i b) ++ (get_or b i None ∷ drop (i + 1) b)) i (f (get_or b i None)) ≡ map f (take i b) ++ (f (get_or b i None) ∷ drop (i + 1) b) =
    set_at (map f (take i b)) (get_or b i None) (drop (i + 1) b) (f (get_or b i None)) i (length-front f i b lt) in
    let front : map f (take (i + 1) b) ≡ map f (take i b) ++ f (get_or b i None) ∷ [] = ap (map f) (take_more b i None lt) ∙ map-append f (take i b) (get_or b i None ∷ []) in
    ap (λ (t : List Cell). set (map f (take i b) ++ t) i (f (get_or b i None))) (drop_more b i None lt) ∙ step ∙ sym (append_assoc (map f (take i b)) (f (get_or b i None) ∷ []) (drop (i + 1) b)) ∙ ap (λ (t : List Cell). t ++ drop (i + 1) b) (sym front)

written_same : (f : Cell → Cell) (i : ℕ) (b : List Cell) → i < length b → f (get_or b i None) ≡ get_or b i None → written_to f i b ≡ written_to f (i + 1) b
written_same f i b lt same =
    sym (set-get_or (written_to f i b) i None) ∙ ap (λ (x : Cell). set (written_to f i b) i x) (written_at f i b lt ∙ sym same) ∙ written_more f i b lt

written_all : (f : Cell → Cell) (i : ℕ) (b : List Cell) → length b ≤ i → written_to f i b ≡ map f b
written_all f i b le = rw (take_all i b le, drop_all i b le) (append-nil (map f b))

-- the lanes while the cells of one are rewritten
abbrev pub IsWrittenTo : (Cell → Cell) → Lanes → ℕ → ℕ → Lanes → Type 0
IsWrittenTo f c lane i now = now ≡ set c lane (written_to f i (cells_at c lane))

cells_now : (f : Cell → Cell) (c : Lanes) (lane i : ℕ) (now : Lanes) → lane < length c → IsWrittenTo f c lane i now → cells_at now lane ≡ written_to f i (cells_at c lane)
cells_now f c lane i now lt was = rw was (get_or-set_same c lane (written_to f i (cells_at c lane)) [] lt)

pub IsWrittenTo-init : (f : Cell → Cell) (c : Lanes) (lane : ℕ) → IsWrittenTo f c lane 0 c
IsWrittenTo-init f c lane = sym (set-get_or c lane [])

pub IsWrittenTo-at : (f : Cell → Cell) (c : Lanes) (lane i : ℕ) (now : Lanes) → lane < 64 → i < 4 → AreFours c → IsWrittenTo f c lane i now → cell_at now lane i ≡ cell_at c lane i
IsWrittenTo-at f c lane i now lt within fours was =
    let inside : i < length (cells_at c lane) = omega (arith, fours.four lane lt) in
    ap (λ (t : List Cell). get_or t i None) (cells_now f c lane i now (omega (arith, fours.lanes)) was) ∙ written_at f i (cells_at c lane) inside

pub IsWrittenTo-more : (f : Cell → Cell) (c : Lanes) (lane i : ℕ) (now new : Lanes) (v : Cell) → lane < 64 → i < 4 → AreFours c → IsWrittenTo f c lane i now
    → new ≡ set now lane (set (cells_at now lane) i v) → v ≡ f (cell_at c lane i) → IsWrittenTo f c lane (i + 1) new
IsWrittenTo-more f c lane i now new v lt within fours was write value =
    let b = cells_at c lane in
    let inside : i < length (cells_at c lane) = omega (arith, fours.four lane lt) in
    let here = cells_now f c lane i now (omega (arith, fours.lanes)) was in
    write ∙ rw (here, value, written_more f i b inside, was) (set-set c lane (written_to f i b) (written_to f (i + 1) b))

pub IsWrittenTo-same : (f : Cell → Cell) (c : Lanes) (lane i : ℕ) (now : Lanes) → lane < 64 → i < 4 → AreFours c → IsWrittenTo f c lane i now
    → f (cell_at c lane i) ≡ cell_at c lane i → IsWrittenTo f c lane (i + 1) now
IsWrittenTo-same f c lane i now lt within fours was same =
    let inside : i < length (cells_at c lane) = omega (arith, fours.four lane lt) in
    was ∙ ap (λ (t : List Cell). set c lane t) (written_same f i (cells_at c lane) inside same)

pub IsWrittenTo-all : (f : Cell → Cell) (c : Lanes) (lane i : ℕ) (now : Lanes) → lane < 64 → 4 ≤ i → AreFours c → IsWrittenTo f c lane i now
    → (lanes_of now ≡ set (lanes_of c) lane (contents (map f (cells_at c lane)))) × AreFours now
IsWrittenTo-all f c lane i now lt past fours was =
    let b = cells_at c lane in
    let four = fours.four lane lt in
    let all : now ≡ set c lane (map f b) = was ∙ ap (λ (t : List Cell). set c lane t) (written_all f i b (omega arith)) in
    (ap lanes_of all ∙ lanes_of-set c lane (map f b), rw all (fours_set c lane (map f b) fours (length-map b f ∙ four)))

-- ---- cells that are emptied

abbrev pub none_of : Cell → Cell
none_of content = None

abbrev pub freed_of : MessageKey → Cell → Cell
freed_of key content = cond (holds key content) None content

pub contents_none : (b : List Cell) → contents (map none_of b) ≡ []
contents_none [] = refl
contents_none (content ∷ b) = contents_none b

pub contents_freed : (key : MessageKey) (b : List Cell) → contents (map (freed_of key) b) ≡ free_partial (contents b) key
contents_freed key [] = refl
contents_freed key (None ∷ b) = contents_freed key b
contents_freed key (Some p ∷ b) = by_test (is_of key p) refl (contents_freed key b)
  where
    by_test : (t : Bool) → is_of key p ≡ t → contents (map (freed_of key) b) ≡ free_partial (contents b) key → contents (map (freed_of key) (Some p ∷ b)) ≡ free_partial (p ∷ contents b) key
    by_test true e below = rw e below
    by_test false e below = rw e (ap (λ (t : List Partial). p ∷ t) below)

pub freed_more : (key : MessageKey) (c : Lanes) (lane i : ℕ) (now new : Lanes) (t : Bool) → lane < 64 → i < 4 → AreFours c → IsWrittenTo (freed_of key) c lane i now
    → t ≡ holds key (cell_at now lane i) → t ≡ true → new ≡ set now lane (set (cells_at now lane) i None) → IsWrittenTo (freed_of key) c lane (i + 1) new
freed_more key c lane i now new t lt within fours was test passed write =
    let here : holds key (cell_at c lane i) ≡ true = ap (holds key) (sym (IsWrittenTo-at (freed_of key) c lane i now lt within fours was)) ∙ sym test ∙ passed in
    IsWrittenTo-more (freed_of key) c lane i now new None lt within fours was write (rw here refl)

pub freed_same : (key : MessageKey) (c : Lanes) (lane i : ℕ) (now : Lanes) (t : Bool) → lane < 64 → i < 4 → AreFours c → IsWrittenTo (freed_of key) c lane i now
    → t ≡ holds key (cell_at now lane i) → t ≡ false → IsWrittenTo (freed_of key) c lane (i + 1) now
freed_same key c lane i now t lt within fours was test failed =
    let here : holds key (cell_at c lane i) ≡ false = ap (holds key) (sym (IsWrittenTo-at (freed_of key) c lane i now lt within fours was)) ∙ sym test ∙ failed in
    IsWrittenTo-same (freed_of key) c lane i now lt within fours was (rw here refl)

pub freed_all : (key : MessageKey) (c : Lanes) (lane i : ℕ) (now : Lanes) → lane < 64 → 4 ≤ i → AreFours c → IsWrittenTo (freed_of key) c lane i now
    → (lanes_of now ≡ set (lanes_of c) lane (free_partial (lane_at (lanes_of c) lane) key)) × AreFours now
freed_all key c lane i now lt past fours was =
    let all = IsWrittenTo-all (freed_of key) c lane i now lt past fours was in
    let here : contents (map (freed_of key) (cells_at c lane)) ≡ free_partial (lane_at (lanes_of c) lane) key =
    contents_freed key (cells_at c lane) ∙ ap (λ (t : List Partial). free_partial t key) (sym (lane-lanes_of c lane (omega (arith, fours.lanes)))) in
    (all.0 ∙ ap (λ (t : List Partial). set (lanes_of c) lane t) here, all.1)

pub none_all : (c : Lanes) (lane i : ℕ) (now : Lanes) → lane < 64 → 4 ≤ i → AreFours c → IsWrittenTo none_of c lane i now
    → (lanes_of now ≡ set (lanes_of c) lane []) × AreFours now
none_all c lane i now lt past fours was =
    let all = IsWrittenTo-all none_of c lane i now lt past fours was in
    (all.0 ∙ ap (λ (t : List Partial). set (lanes_of c) lane t) (contents_none (cells_at c lane)), all.1)

-- ---- a partial message that is put behind the others

length-contents : (b : List Cell) → length (contents b) ≤ length b
length-contents [] = omega arith
length-contents (None ∷ b) = omega (arith, length-contents b)
length-contents (Some p ∷ b) = omega (arith, length-contents b)

contents-cons : (x : Cell) (b : List Cell) → contents (x ∷ b) ≡ contents (x ∷ []) ++ contents b
contents-cons None b = refl
contents-cons (Some p) b = refl

-- the carried one stands between those that it is to follow and those that moved down
pub record IsStoring (old : Lanes) (lane : ℕ) (first : Partial) (now : Lanes) (place : ℕ) (carried : Cell) : Type 0 where
  pub only : now ≡ set old lane (cells_at now lane)
  pub four : length (cells_at now lane) ≡ 4
  pub within : place ≤ 4
  pub each : contents (take place (cells_at now lane)) ++ (contents (carried ∷ []) ++ contents (drop place (cells_at now lane))) ≡ contents (cells_at old lane) ++ first ∷ []
  pub full : is_some carried ≡ true → length (contents (drop place (cells_at now lane))) + place ≡ 4

pub IsStoring-init : (old : Lanes) (lane : ℕ) (first : Partial) → lane < 64 → AreFours old → IsStoring old lane first old 4 (Some first)
IsStoring-init old lane first lt fours =
    let b = cells_at old lane in
    let four = fours.four lane lt in
    let all = take_all 4 b (omega arith) in
    let none = drop_all 4 b (omega arith) in
    record {
      only = sym (set-get_or old lane []);
      four = four;
      within = omega arith;
      each = rw (all, none) refl;
      full = λ _. rw none refl;
    }

moved : (b : List Cell) (q : ℕ) (carried was : Cell) → q < length b → was ≡ get_or b q None
    → contents (take q (set b q carried)) ++ (contents (was ∷ []) ++ contents (drop q (set b q carried))) ≡ contents (take (q + 1) b) ++ (contents (carried ∷ []) ++ contents (drop (q + 1) b))
moved b q carried was lt at =
    let front : contents (take (q + 1) b) ≡ contents (take q b) ++ contents (was ∷ []) =
    ap contents (take_more b q None lt) ∙ filter_map-append (λ (x : Cell). x) (take q b) (get_or b q None ∷ []) ∙ rw at refl in
    rw (take-set b q carried, drop-set b q carried lt, front, contents-cons carried (drop (q + 1) b)) (sym (append_assoc (contents (take q b)) (contents (was ∷ [])) (contents (carried ∷ []) ++ contents (drop (q + 1) b))))

one_more : (x : Cell) (b : List Cell) → is_some x ≡ true → length (contents (x ∷ b)) ≡ length (contents b) + 1
one_more None b e = absurd (cc)
one_more (Some p) b e = omega arith

pub IsStoring-more : (old : Lanes) (lane : ℕ) (first : Partial) (now new : Lanes) (place q : ℕ) (carried was : Cell) → lane < 64 → AreFours old → IsStoring old lane first now place carried
    → q + 1 ≡ place → is_some carried ≡ true → was ≡ cell_at now lane q → new ≡ set now lane (set (cells_at now lane) q carried) → IsStoring old lane first new q was
IsStoring-more old lane first now new place q carried was lt fours s next some at write =
    let b = cells_at now lane in
    let lanes : length old ≡ 64 = fours.lanes in
    let lanes_now : length now ≡ length old = ap length s.only ∙ length-set old lane (cells_at now lane) in
    let four : length (cells_at now lane) ≡ 4 = s.four in
    let le : place ≤ 4 = s.within in
    let inside : q < length (cells_at now lane) = omega arith in
    let here : cells_at new lane ≡ set (cells_at now lane) q carried = rw write (get_or-set_same now lane (set (cells_at now lane) q carried) [] (omega arith)) in
    let each_before : contents (take (q + 1) (cells_at now lane)) ++ (contents (carried ∷ []) ++ contents (drop (q + 1) (cells_at now lane))) ≡ contents (cells_at old lane) ++ first ∷ [] = rw next s.each in
    let full_before : length (contents (drop (q + 1) (cells_at now lane))) + place ≡ 4 = rw next (s.full some) in
    record {
      only = write ∙ ap (λ (t : Lanes). set t lane (set (cells_at now lane) q carried)) s.only ∙ set-set old lane (cells_at now lane) (set (cells_at now lane) q carried) ∙ ap (λ (t : List Cell). set old lane t) (sym here);
      four = rw here (length-set (cells_at now lane) q carried ∙ s.four);
      within = omega arith;
      each = rw here (moved (cells_at now lane) q carried was inside at ∙ each_before);
      full = λ _. rw (here, drop-set (cells_at now lane) q carried inside) (omega (arith, one_more carried (drop (q + 1) (cells_at now lane)) some));
    }

begun_kept : (lane : List Partial) (first : Partial) → length lane < 4 → begin_partial lane first ≡ (kept, lane ++ first ∷ [])
begun_kept lane first lt = rw (lt-ltb (length lane) 4 lt) refl

begun_displaced : (lane : List Partial) (first : Partial) → 4 ≤ length lane → begin_partial lane first ≡ (displaced, drop 1 lane ++ first ∷ [])
begun_displaced lane first le = rw (le-ltb (length lane) 4 le) refl

stored_lanes : (old now : Lanes) (lane : ℕ) (b : List Partial) → lane < 64 → AreFours old → now ≡ set old lane (cells_at now lane) → length (cells_at now lane) ≡ 4 → contents (cells_at now lane) ≡ b
    → (lanes_of now ≡ set (lanes_of old) lane b) × AreFours now
stored_lanes old now lane b lt fours only four is =
    (ap lanes_of only ∙ lanes_of-set old lane (cells_at now lane) ∙ ap (λ (t : List Partial). set (lanes_of old) lane t) is, rw only (fours_set old lane (cells_at now lane) fours four))

-- an empty cell took the last that moved
pub storing_kept : (old now : Lanes) (lane place : ℕ) (first : Partial) (carried : Cell) → lane < 64 → AreFours old → IsStoring old lane first now place carried → is_some carried ≡ false
    → (kept ≡ (begin_partial (lane_at (lanes_of old) lane) first).0) × (lanes_of now ≡ set (lanes_of old) lane (begin_partial (lane_at (lanes_of old) lane) first).1) × AreFours now
storing_kept old now lane place first (Some p) lt fours s none = absurd (cc)
storing_kept old now lane place first None lt fours s none =
    let b = cells_at now lane in
    let whole : contents (cells_at now lane) ≡ contents (cells_at old lane) ++ first ∷ [] =
    ap contents (sym (take-append-drop place (cells_at now lane))) ∙ filter_map-append (λ (x : Cell). x) (take place (cells_at now lane)) (drop place (cells_at now lane)) ∙ s.each in
    let few = length-contents (cells_at now lane) in
    let grown : length (contents (cells_at now lane)) ≡ length (contents (cells_at old lane)) + 1 = ap length whole ∙ length-append (contents (cells_at old lane)) (first ∷ []) in
    let short : length (contents (cells_at old lane)) < 4 = omega (arith, s.four) in
    let start = lane-lanes_of old lane (omega (arith, fours.lanes)) in
    let after = stored_lanes old now lane (contents (cells_at old lane) ++ first ∷ []) lt fours s.only s.four whole in
    rw (start, begun_kept (contents (cells_at old lane)) first short) (refl, after.0, after.1)

-- the oldest fell out
pub storing_displaced : (old now : Lanes) (lane place : ℕ) (first : Partial) (carried : Cell) → lane < 64 → AreFours old → IsStoring old lane first now place carried → is_some carried ≡ true → place ≡ 0
    → (displaced ≡ (begin_partial (lane_at (lanes_of old) lane) first).0) × (lanes_of now ≡ set (lanes_of old) lane (begin_partial (lane_at (lanes_of old) lane) first).1) × AreFours now
storing_displaced old now lane place first None lt fours s some last = absurd (cc)
storing_displaced old now lane place first (Some p) lt fours s some last =
    let all : p ∷ contents (cells_at now lane) ≡ contents (cells_at old lane) ++ first ∷ [] = rw last at s.each in
    let full : length (contents (cells_at now lane)) + 0 ≡ 4 = rw last at (s.full refl) in
    let lens : length (p ∷ contents (cells_at now lane)) ≡ length (contents (cells_at old lane)) + length (first ∷ []) = ap length all ∙ length-append (contents (cells_at old lane)) (first ∷ []) in
    let four : 4 ≤ length (contents (cells_at old lane)) = omega arith in
    let behind : contents (cells_at now lane) ≡ drop 1 (contents (cells_at old lane)) ++ first ∷ [] = ap (drop 1) all ∙ drop-append-le 1 (contents (cells_at old lane)) (first ∷ []) (omega arith) in
    let start = lane-lanes_of old lane (omega (arith, fours.lanes)) in
    let after = stored_lanes old now lane (drop 1 (contents (cells_at old lane)) ++ first ∷ []) lt fours s.only s.four behind in
    rw (start, begun_displaced (contents (cells_at old lane)) first four) (refl, after.0, after.1)
