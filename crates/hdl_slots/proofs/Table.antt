-- A table of keys: what a write of one cell does, and what new cells do.
use Rattle.std.proofs.Common.{◌≡◌, ◌≢◌, ℕ, zero, suc, ◌+◌, ◌<◌, List, [], ◌∷◌, ◌++◌, map, length, get_or, set, replicate, Option, Some, None, is_some, refl, sym, ap, ◌∙◌, inl, inr, arith}
use Rattle.std.proofs.lemmas.Bool.{cases_eq}
use Rattle.std.proofs.lemmas.List.{get_or-map, get_or_push, get_or_append_left, length_push}
use Rattle.std.proofs.lemmas.Option.{some_pair_parts}
use Rattle.slab.specs.Slab.{Slab, get, with_value, Updates}
use Rattle.slab.proofs.SlabLemmas.{Updates-with_value}
use Rattle.hdl_slots.specs.declared.cells.Cell.{Cell}
use Rattle.hdl_slots.specs.declared.pending.Challenge.{Challenge}
use Rattle.hdl_slots.specs.Places.{places_of}
use Rattle.hdl_slots.specs.Cells.{challenge_in, lanes_held, key_at, owner, empty_cell, IsTable}

module _ {X Y : Type 0} where
  same_map : (f g : X → Y) (xs : List X) (d : X) → ((k : ℕ) → k < length xs → g (get_or xs k d) ≡ f (get_or xs k d)) → map g xs ≡ map f xs
  same_map f g [] d same = refl
  same_map f g (x ∷ xs) d same = rw (same 0 (omega arith), same_map f g xs d (λ k h. same (suc k) (omega arith))) refl

  -- g is f but for what it gives at one place
  written_map : (f g : X → Y) (xs : List X) (i : ℕ) (d : X) (y : Y) → i < length xs → g (get_or xs i d) ≡ y
      → ((k : ℕ) → k < length xs → k ≢ i → g (get_or xs k d) ≡ f (get_or xs k d)) → map g xs ≡ set (map f xs) i y
  written_map f g [] i d y lt here others = absurd (omega arith)
  written_map f g (x ∷ xs) zero d y lt here others =
      rw (here, same_map f g xs d (λ k h. others (suc k) (omega arith) (omega arith))) refl
  written_map f g (x ∷ xs) (suc i) d y lt here others =
      rw (others 0 (omega arith) (omega arith), written_map f g xs i d y (omega arith) here (λ k h n. others (suc k) (omega arith) (omega arith))) refl

  all_same : (f : X → Y) (xs : List X) (n : ℕ) (d : X) (y : Y) → length xs ≡ n → ((k : ℕ) → k < n → f (get_or xs k d) ≡ y) → map f xs ≡ replicate n y
  all_same f [] n d y len same = rw (← len) refl
  all_same f (x ∷ xs) zero d y len same = absurd (omega arith)
  all_same f (x ∷ xs) (suc n) d y len same = rw (same 0 (omega arith), all_same f xs n d y (omega arith) (λ k h. same (suc k) (omega arith))) refl

-- two places with one key are one place
one_place : (slab : Slab Cell) (keys : List (List ℕ)) → IsTable slab keys → (l p lane place : ℕ) → l < 64 → p < 8 → lane < 64 → place < 8
    → key_at keys l p ≡ key_at keys lane place → (l ≡ lane) × (p ≡ place)
one_place slab keys table l p lane place hl hp hlane hplace same =
    some_pair_parts l lane p place (sym (table.owned l p hl hp) ∙ ap (owner slab) same ∙ table.owned lane place hlane hplace)

-- the slab once a cell has this challenge
abbrev pub rewritten : Slab Cell → ℕ → Cell → Option Challenge → Slab Cell
rewritten slab key was challenge = with_value slab key record { lane = was.lane; place = was.place; challenge = challenge }

module _ (slab : Slab Cell) (keys : List (List ℕ)) (lane place key : ℕ) (was : Cell) (challenge : Option Challenge) (table : IsTable slab keys)
    (hlane : lane < 64) (hplace : place < 8) (key_is : key ≡ key_at keys lane place) (was_there : get slab key ≡ Some was) where
  updates : Updates slab (rewritten slab key was challenge) key (Some record { lane = was.lane; place = was.place; challenge = challenge })
  updates = Updates-with_value slab key _ (ap is_some was_there)

  held_other : (l p : ℕ) → l < 64 → p < 8 → ((l ≡ lane) × (p ≡ place) → ⊥) → challenge_in (rewritten slab key was challenge) (key_at keys l p) ≡ challenge_in slab (key_at keys l p)
  held_other l p hl hp other =
      rw (updates.others (key_at keys l p) (λ same. other (one_place slab keys table l p lane place hl hp hlane hplace (same ∙ key_is)))) refl

  held_here : challenge_in (rewritten slab key was challenge) (key_at keys lane place) ≡ challenge
  held_here = rw (← key_is, updates.changed) refl

  pub lanes_written : lanes_held (rewritten slab key was challenge) keys ≡ set (lanes_held slab keys) lane (set (places_of (lanes_held slab keys) lane) place challenge)
  lanes_written =
      let inside : lane < length keys = omega (arith, table.lanes) in
      let read : places_of (lanes_held slab keys) lane ≡ map (challenge_in slab) (get_or keys lane []) = get_or-map (map (challenge_in slab)) keys lane [] [] inside in
      let here : map (challenge_in (rewritten slab key was challenge)) (get_or keys lane []) ≡ set (map (challenge_in slab) (get_or keys lane [])) place challenge =
      written_map (challenge_in slab) (challenge_in (rewritten slab key was challenge)) (get_or keys lane []) place 0 challenge (omega (arith, table.places lane hlane)) held_here
      (λ p h n. held_other lane p hlane (omega (arith, table.places lane hlane)) (λ both. n both.1)) in
      rw read
      (written_map (map (challenge_in slab)) (map (challenge_in (rewritten slab key was challenge))) keys lane [] _ inside here
      (λ l h n. let hl : l < 64 = omega (arith, table.lanes) in
      same_map (challenge_in slab) (challenge_in (rewritten slab key was challenge)) (get_or keys l []) 0 (λ p k. held_other l p hl (omega (arith, table.places l hl)) (λ both. n both.0))))

  owner_kept : (k : ℕ) → owner (rewritten slab key was challenge) k ≡ owner slab k
  owner_kept k = elim (cases_eq k key) [
    | inl same ↦ rw (same, updates.changed, was_there) refl
    | inr other ↦ rw (updates.others k other) refl
  ]

  pub table_kept : IsTable (rewritten slab key was challenge) keys
  table_kept = record { lanes = table.lanes; places = table.places; owned = λ l p hl hp. owner_kept (key_at keys l p) ∙ table.owned l p hl hp }

-- the first lanes have their cells, all of them empty
pub record IsNewTable (slab : Slab Cell) (keys : List (List ℕ)) (count : ℕ) : Type 0 where
  pub lanes : length keys ≡ count
  pub places : (lane : ℕ) → lane < count → length (get_or keys lane []) ≡ 8
  pub empty : (lane place : ℕ) → lane < count → place < 8 → get slab (key_at keys lane place) ≡ Some (empty_cell lane place)

pub lane_added : (old new : Slab Cell) (keys : List (List ℕ)) (lane : ℕ) (added : List ℕ) → IsNewTable old keys lane → length added ≡ 8
    → ((place : ℕ) → place < 8 → get new (get_or added place 0) ≡ Some (empty_cell lane place))
    → ((key : ℕ) (cell : Cell) → get old key ≡ Some cell → get new key ≡ Some cell) → IsNewTable new (keys ++ added ∷ []) (lane + 1)
lane_added old new keys lane added table width made kept =
    let last : get_or (keys ++ added ∷ []) lane [] ≡ added = get_or_push keys added [] lane table.lanes in
    let front : (l : ℕ) → l < lane → get_or (keys ++ added ∷ []) l [] ≡ get_or keys l [] =
    λ l h. get_or_append_left keys (added ∷ []) [] l (omega (arith, table.lanes)) in
    record {
      lanes = omega (arith, table.lanes, length_push keys added);
      places = λ l h. elim (cases_eq l lane) [
        | inl same ↦ rw (same, last) width
        | inr other ↦ rw (front l (omega arith)) (table.places l (omega arith))
      ];
      empty = λ l p h k. elim (cases_eq l lane) [
        | inl same ↦ rw (same, last) (made p k)
        | inr other ↦ rw (front l (omega arith)) (kept _ _ (table.empty l p (omega arith) k))
      ];
    }

pub new_is_table : (slab : Slab Cell) (keys : List (List ℕ)) → IsNewTable slab keys 64 → IsTable slab keys
new_is_table slab keys table = record {
  lanes = table.lanes;
  places = table.places;
  owned = λ l p h k. rw (table.empty l p h k) refl;
}

pub new_is_empty : (slab : Slab Cell) (keys : List (List ℕ)) → IsNewTable slab keys 64 → lanes_held slab keys ≡ replicate 64 (replicate 8 None)
new_is_empty slab keys table =
    all_same (map (challenge_in slab)) keys 64 [] (replicate 8 None) table.lanes
    (λ l h. all_same (challenge_in slab) (get_or keys l []) 8 0 None (table.places l h) (λ p k. rw (table.empty l p h k) refl))
