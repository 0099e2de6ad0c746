-- Cells that lie in the slots of a slab.
use Rattle.std.proofs.Common.{◌≡◌, ◌≢◌, ℕ, zero, suc, ◌+◌, ◌-◌, ◌*◌, ◌<◌, List, [], ◌∷◌, ◌++◌, length, map, set, get_or, take, drop, replicate, Option, Some, None, refl, sym, ap, subst, ◌∙◌, arith, inl, inr}
use Rattle.std.specs.Prelude.{IsSome, unwrap_or}
use Rattle.std.proofs.Math.Seq.{take-set-lt}
use Rattle.std.proofs.lemmas.Bool.{cases_eq, cases_lt}
use Rattle.std.proofs.lemmas.List.{length-set, length-map, length-replicate, length_push, get_or-take, get_or-drop, get_or-map, get_or_default, get_or-set_same, get_or-set_other, get_or-replicate, get_or_append_left, get_or_push, take-set-le, drop-set-lt, drop-set-add, take-replicate, drop-replicate, ext_get_or}
use Rattle.slab.specs.Slab.{Slab, get, with_value, Updates}
use Rattle.slab.proofs.SlabLemmas.{Updates-with_value}
use Rattle.hdl_pool.specs.Partial.{Partial}
use Rattle.hdl_pool.specs.Store.{fours, content_at, stored_cells, AreKeys}

abbrev Cell : Type 0
Cell = Option Partial

-- ---- a list cut into fours

fours_at : {A : Type 0} (n : ℕ) (xs : List A) (lane i : ℕ) (d : A) → lane < n → i < 4 → get_or (get_or (fours n xs) lane []) i d ≡ get_or xs (4 * lane + i) d
unfolding fours
fours_at zero xs lane i d lt within = absurd (omega arith)
fours_at (suc n) xs zero i d lt within = get_or-take 4 xs i d within ∙ ap (λ (k : ℕ). get_or xs k d) (omega arith)
fours_at (suc n) xs (suc lane) i d lt within = fours_at n (drop 4 xs) lane i d (omega arith) within ∙ get_or-drop 4 xs (4 * lane + i) d ∙ ap (λ (k : ℕ). get_or xs k d) (omega arith)

fours_write : {A : Type 0} (n : ℕ) (xs : List A) (lane i : ℕ) (v : A) → lane < n → i < 4 → fours n (set xs (4 * lane + i) v) ≡ set (fours n xs) lane (set (get_or (fours n xs) lane []) i v)
unfolding fours
fours_write zero xs lane i v lt within = absurd (omega arith)
fours_write (suc n) xs zero i v lt within =
    let here : 4 * 0 + i ≡ i = omega arith in
    rw (here, take-set-lt 4 xs i v within, drop-set-lt 4 xs i v within) refl
fours_write {A} (suc n) xs (suc lane) i v lt within =
    let later : 4 * suc lane + i ≡ 4 + (4 * lane + i) = omega arith in
    let front = take-set-le 4 xs (4 + (4 * lane + i)) v (omega arith) in
    rw (later, front, drop-set-add 4 xs (4 * lane + i) v) (ap (λ (t : List (List A)). take 4 xs ∷ t) (fours_write n (drop 4 xs) lane i v (omega arith) within))

fours-replicate : {A : Type 0} (n : ℕ) (x : A) → fours n (replicate (4 * n) x) ≡ replicate n (replicate 4 x)
unfolding fours
fours-replicate zero x = refl
fours-replicate {A} (suc n) x =
    let less : 4 * suc n - 4 ≡ 4 * n = omega arith in
    rw (take-replicate 4 (4 * suc n) x (omega arith), drop-replicate 4 (4 * suc n) x, less) (ap (λ (t : List (List A)). replicate 4 x ∷ t) (fours-replicate n x))

-- ---- what the keys find

key_apart : (slab : Slab Cell) (keys : List ℕ) (m n : ℕ) → AreKeys slab keys → m < 256 → n < 256 → m ≢ n → get_or keys m 0 ≢ get_or keys n 0
key_apart slab keys m n own mt nt apart same =
    elim (cases_lt m n) [
      | inl lt ↦ own.differ m n lt nt same
      | inr ge ↦ own.differ n m (omega arith) mt (sym same)
    ]

contents_updated : (old new : Slab Cell) (keys : List ℕ) (n : ℕ) (v : Cell) → AreKeys old keys → n < 256 → Updates old new (get_or keys n 0) (Some v) → map (content_at new) keys ≡ set (map (content_at old) keys) n v
contents_updated old new keys n v own lt updates =
    let lens = length-map keys (content_at new) in
    let lens_old = length-map keys (content_at old) in
    let lens_set = length-set (map (content_at old) keys) n v in
    ext_get_or None (map (content_at new) keys) (set (map (content_at old) keys) n v) (omega arith) (λ i within. at i (omega (arith, own.count)))
  where
    at : (i : ℕ) → i < 256 → get_or (map (content_at new) keys) i None ≡ get_or (set (map (content_at old) keys) n v) i None
    at i inside =
        let there : get_or (map (content_at new) keys) i None ≡ content_at new (get_or keys i 0) = get_or-map (content_at new) keys i 0 None (omega (arith, own.count)) in
        elim (cases_eq i n) [
          | inl same ↦ there ∙ ap (λ (k : ℕ). content_at new (get_or keys k 0)) same ∙ ap (λ (o : Option Cell). unwrap_or o None) updates.changed
              ∙ sym (ap (λ (k : ℕ). get_or (set (map (content_at old) keys) n v) k None) same ∙ get_or-set_same (map (content_at old) keys) n v None (omega (arith, own.count, length-map keys (content_at old))))
          | inr other ↦ there ∙ ap (λ (o : Option Cell). unwrap_or o None) (updates.others (get_or keys i 0) (key_apart old keys i n own inside lt other))
              ∙ sym (get_or-set_other (map (content_at old) keys) n i v None other ∙ get_or-map (content_at old) keys i 0 None (omega (arith, own.count)))
        ]

keys_updated : (old new : Slab Cell) (keys : List ℕ) (n : ℕ) (v : Cell) → AreKeys old keys → n < 256 → Updates old new (get_or keys n 0) (Some v) → AreKeys new keys
keys_updated old new keys n v own lt updates =
    record {
      count = own.count;
      present = λ m inside.
          elim (cases_eq m n) [
            | inl same ↦ subst (λ (o : Option Cell). IsSome o) (sym (ap (λ (k : ℕ). get new (get_or keys k 0)) same ∙ updates.changed)) refl
            | inr other ↦ subst (λ (o : Option Cell). IsSome o) (sym (updates.others (get_or keys m 0) (key_apart old keys m n own inside lt other))) (own.present m inside)
          ];
      differ = own.differ;
    }

-- ---- one cell

place_within : (lane place : ℕ) → lane < 64 → place < 4 → 4 * lane + place < 256
place_within lane place lt within = omega arith

pub cell_is : (slab : Slab Cell) (keys : List ℕ) (lane place : ℕ) → AreKeys slab keys → lane < 64 → place < 4
    → get_or (get_or (stored_cells slab keys) lane []) place None ≡ content_at slab (get_or keys (4 * lane + place) 0)
cell_is slab keys lane place own lt within =
    let inside = place_within lane place lt within in
    fours_at 64 (map (content_at slab) keys) lane place None lt within ∙ get_or-map (content_at slab) keys (4 * lane + place) 0 None (omega (arith, own.count))

pub cell_written : (old new : Slab Cell) (keys : List ℕ) (lane place : ℕ) (v : Cell) → AreKeys old keys → lane < 64 → place < 4 → new ≡ with_value old (get_or keys (4 * lane + place) 0) v
    → (stored_cells new keys ≡ set (stored_cells old keys) lane (set (get_or (stored_cells old keys) lane []) place v)) × AreKeys new keys
cell_written old new keys lane place v own lt within is =
    let inside = place_within lane place lt within in
    let updates : Updates old new (get_or keys (4 * lane + place) 0) (Some v) = rw is (Updates-with_value old (get_or keys (4 * lane + place) 0) v (own.present (4 * lane + place) inside)) in (
      ap (fours 64) (contents_updated old new keys (4 * lane + place) v own inside updates) ∙ fours_write 64 (map (content_at old) keys) lane place v lt within,
      keys_updated old new keys (4 * lane + place) v own inside updates,
    )

at_key : (keys : List ℕ) (lane place key : ℕ) → length keys ≡ 256 → lane < 64 → place < 4 → key ≡ get_or keys (4 * lane + place) key → key ≡ get_or keys (4 * lane + place) 0
at_key keys lane place key count lt within is = is ∙ get_or_default keys (4 * lane + place) key 0 (omega arith)

-- the slot with a cell's key is there, and has what the cell has
pub cell_read : (slab : Slab Cell) (keys : List ℕ) (view : List (List Cell)) (lane place key : ℕ) (content : Cell) → stored_cells slab keys ≡ view → AreKeys slab keys → lane < 64 → place < 4
    → key ≡ get_or keys (4 * lane + place) key → get slab key ≡ Some content → content ≡ get_or (get_or view lane []) place None
cell_read slab keys view lane place key content seen own lt within is found =
    let here : content_at slab (get_or keys (4 * lane + place) 0) ≡ content = ap (content_at slab) (sym (at_key keys lane place key own.count lt within is)) ∙ ap (λ (o : Option Cell). unwrap_or o None) found in
    sym (ap (λ (t : List (List Cell)). get_or (get_or t lane []) place None) (sym seen) ∙ cell_is slab keys lane place own lt within ∙ here)

not_none : (o : Option Cell) → IsSome o → o ≢ None
not_none None some e = absurd (cc)
not_none (Some content) some e = absurd (cc)

pub key_found : (slab : Slab Cell) (keys : List ℕ) (lane place key : ℕ) → AreKeys slab keys → lane < 64 → place < 4 → key ≡ get_or keys (4 * lane + place) key → get slab key ≢ None
key_found slab keys lane place key own lt within is none =
    not_none (get slab (get_or keys (4 * lane + place) 0)) (own.present (4 * lane + place) (place_within lane place lt within)) (ap (get slab) (sym (at_key keys lane place key own.count lt within is)) ∙ none)

pub cell_rewritten : (old new : Slab Cell) (keys : List ℕ) (view : List (List Cell)) (lane place key : ℕ) (content : Cell) → stored_cells old keys ≡ view → AreKeys old keys → lane < 64 → place < 4
    → key ≡ get_or keys (4 * lane + place) key → new ≡ with_value old key content
    → (stored_cells new keys ≡ set view lane (set (get_or view lane []) place content)) × AreKeys new keys
cell_rewritten old new keys view lane place key content seen own lt within is written =
    let at : new ≡ with_value old (get_or keys (4 * lane + place) 0) content = written ∙ ap (λ (k : ℕ). with_value old k content) (at_key keys lane place key own.count lt within is) in
    let both = cell_written old new keys lane place content own lt within at in
    (rw (← seen) both.0, both.1)

-- ---- cells that are made

-- so many keys each have an empty slot of their own
pub record AreEmpty (slab : Slab Cell) (keys : List ℕ) (count : ℕ) : Type 0 where
  pub made : length keys ≡ count
  pub empty : (n : ℕ) → n < count → get slab (get_or keys n 0) ≡ Some None
  pub differ : (m n : ℕ) → m < n → n < count → get_or keys m 0 ≢ get_or keys n 0

pub AreEmpty-more : (old new : Slab Cell) (keys : List ℕ) (i key : ℕ) → AreEmpty old keys i → get old key ≡ None → Updates old new key (Some None) → AreEmpty new (keys ++ key ∷ []) (i + 1)
AreEmpty-more old new keys i key e vacant updates =
    let count : length keys ≡ i = e.made in
    record {
      made = length_push keys key ∙ omega arith;
      empty = λ n lt. empty_at n lt;
      differ = λ m n less lt. differ_at m n less lt;
    }
  where
    front : (n : ℕ) → n < i → get_or (keys ++ key ∷ []) n 0 ≡ get_or keys n 0
    front n lt = get_or_append_left keys (key ∷ []) 0 n (omega (arith, e.made))

    last : (n : ℕ) → n ≡ i → get_or (keys ++ key ∷ []) n 0 ≡ key
    last n is = get_or_push keys key 0 n (e.made ∙ sym is)

    apart : (n : ℕ) → n < i → get_or keys n 0 ≢ key
    apart n lt same = absurd (let found : get old key ≡ Some None = rw same at (e.empty n lt) in cc)

    empty_at : (n : ℕ) → n < i + 1 → get new (get_or (keys ++ key ∷ []) n 0) ≡ Some None
    empty_at n lt =
        elim (cases_lt n i) [
          | inl below ↦ ap (get new) (front n below) ∙ updates.others (get_or keys n 0) (apart n below) ∙ e.empty n below
          | inr past ↦ ap (get new) (last n (omega arith)) ∙ updates.changed
        ]

    differ_at : (m n : ℕ) → m < n → n < i + 1 → get_or (keys ++ key ∷ []) m 0 ≢ get_or (keys ++ key ∷ []) n 0
    differ_at m n less lt same =
        elim (cases_lt n i) [
          | inl below ↦ e.differ m n less below (sym (front m (omega arith)) ∙ same ∙ front n below)
          | inr past ↦ apart m (omega arith) (sym (front m (omega arith)) ∙ same ∙ last n (omega arith))
        ]

pub AreEmpty-init : (slab : Slab Cell) (keys : List ℕ) → keys ≡ [] → AreEmpty slab keys 0
AreEmpty-init slab keys none = record { made = ap length none; empty = λ n lt. absurd (omega arith); differ = λ m n less lt. absurd (omega arith) }

pub AreEmpty-keys : (slab : Slab Cell) (keys : List ℕ) (i : ℕ) → i ≡ 256 → AreEmpty slab keys i → AreKeys slab keys
AreEmpty-keys slab keys i all e =
    record {
      count = e.made ∙ all;
      present = λ n lt. subst (λ (o : Option Cell). IsSome o) (sym (e.empty n (omega arith))) refl;
      differ = λ m n less lt. e.differ m n less (omega arith);
    }

pub AreEmpty-cells : (slab : Slab Cell) (keys : List ℕ) (i : ℕ) → i ≡ 256 → AreEmpty slab keys i → stored_cells slab keys ≡ replicate 64 (replicate 4 None)
AreEmpty-cells slab keys i all e =
    let lens : length (map (content_at slab) keys) ≡ 256 = length-map keys (content_at slab) ∙ e.made ∙ all in
    let lens_none : length (replicate {A = Cell} 256 None) ≡ 256 = length-replicate {A = Cell} 256 None in
    let none : map (content_at slab) keys ≡ replicate 256 None =
    ext_get_or None (map (content_at slab) keys) (replicate 256 None) (omega arith)
    (λ n within. get_or-map (content_at slab) keys n 0 None (omega (arith, e.made)) ∙ ap (λ (o : Option Cell). unwrap_or o None) (e.empty n (omega arith)) ∙ sym (get_or-replicate 256 n None None (omega arith))) in
    ap (fours 64) none ∙ fours-replicate 64 None
