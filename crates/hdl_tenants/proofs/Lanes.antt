-- Whose lane it is, one publisher after another.
use Rattle.std.proofs.Common.{◌≡◌, ◌++◌, ◌∷◌, [], List, ℕ, zero, suc, ◌+◌, ◌-◌, ◌<◌, ◌≤◌, Bool, true, false, length, drop, slice_get, nat_lt, Option, None, Some, arith, sym, ap, ◌∙◌, refl, add-one, subst, take, All}
use Rattle.std.specs.Option.{option_map}
use Rattle.std.proofs.lemmas.List.{take_more, take-append-drop}
use Rattle.std.proofs.lemmas.List.Sums.{sum_by-append, sum_by-cons}
use Rattle.std.proofs.lemmas.Option.{get_or_from_slice_get, slice_get_within}
use Rattle.std.proofs.lemmas.Bool.Decides.{Decides-ltb}
use Rattle.hdl_tenants.specs.Register.{Publisher, owner_among, lane_count, first_lane}

drop-at : {A : Type 0} (xs : List A) (k : ℕ) (x : A) → slice_get xs k ≡ Some x → drop k xs ≡ x ∷ drop (k + 1) xs
drop-at [] k x h = cc
drop-at (y ∷ ys) zero x h = let same : y ≡ x = cc in ap (λ z. z ∷ ys) same
drop-at (y ∷ ys) (suc k) x h = rw add-one (drop-at ys k x h ∙ ap (λ n. x ∷ drop n ys) (add-one k))

drop-past : {A : Type 0} (xs : List A) (k : ℕ) → length xs ≤ k → drop k xs ≡ []
drop-past [] zero h = refl
drop-past [] (suc k) h = refl
drop-past (x ∷ xs) zero h = absurd (omega arith)
drop-past (x ∷ xs) (suc k) h = drop-past xs k (omega arith)

option_map-zero : (o : Option ℕ) → option_map (λ i. i + 0) o ≡ o
option_map-zero None = refl
option_map-zero (Some i) = ap (λ n. Some n) (omega arith)

option_map-more : (place : ℕ) (o : Option ℕ) → option_map (λ i. i + place) (option_map (λ i. i + 1) o) ≡ option_map (λ i. i + (place + 1)) o
option_map-more place None = refl
option_map-more place (Some i) = ap (λ n. Some n) (omega arith)

not_below : (m n : ℕ) → nat_lt m n ≡ false → n ≤ m
not_below m n t = grind arith

not_less : (m n : ℕ) → n ≤ m → nat_lt m n ≡ false
not_less m n above = grind arith

-- the publishers before this place own none of the lanes that are left
pub record SoFar (publishers : List Publisher) (lane place rest : ℕ) : Type 0 where
  pub owner : owner_among publishers lane ≡ option_map (λ i. i + place) (owner_among (drop place publishers) rest)

pub so_far_none : (publishers : List Publisher) (lane : ℕ) → SoFar publishers lane 0 lane
so_far_none publishers lane = record { owner = sym (option_map-zero (owner_among publishers lane)) }

module _ (publishers : List Publisher) (lane place rest : ℕ) (so_far : SoFar publishers lane place rest) where
  pub so_far_here : (p : Publisher) → slice_get publishers place ≡ Some p → rest < p.lanes → owner_among publishers lane ≡ Some place
  so_far_here p at below =
      let passes : nat_lt rest p.lanes ≡ true = (Decides-ltb rest p.lanes).1 below in
      so_far.owner ∙ rw (drop-at publishers place p at, passes) (ap (λ n. Some n) (omega arith))

  pub so_far_more : (p : Publisher) → slice_get publishers place ≡ Some p → p.lanes ≤ rest → SoFar publishers lane (place + 1) (rest - p.lanes)
  so_far_more p at above =
      let fails : nat_lt rest p.lanes ≡ false = not_less rest p.lanes above in
      record { owner = so_far.owner ∙ rw (drop-at publishers place p at, fails) (option_map-more place (owner_among (drop (place + 1) publishers) (rest - p.lanes))) }

  pub so_far_end : length publishers ≤ place → owner_among publishers lane ≡ None
  so_far_end all = so_far.owner ∙ rw (drop-past publishers place all) refl

pub All-at : {A : Type 0} (P : A → Type 0) (xs : List A) (k : ℕ) (x : A) → All P xs → slice_get xs k ≡ Some x → P x
All-at P xs k x each at = subst P (get_or_from_slice_get xs k x x at) (each k x (slice_get_within xs k x at))

-- the lanes of one publisher follow those of the publishers before it
pub first_lane-more : (publishers : List Publisher) (place : ℕ) (p : Publisher) → slice_get publishers place ≡ Some p → first_lane publishers (place + 1) ≡ first_lane publishers place + p.lanes
first_lane-more publishers place p at =
    ap lane_count (take_more publishers place p (slice_get_within publishers place p at) ∙ ap (λ x. take place publishers ++ x ∷ []) (get_or_from_slice_get publishers place p p at))
    ∙ sum_by-append (λ (q : Publisher). q.lanes) (take place publishers) (p ∷ [])
    ∙ ap (λ n. first_lane publishers place + n) (omega arith)

-- and are among all of them
pub first_lane-within : (publishers : List Publisher) (place : ℕ) → first_lane publishers place ≤ lane_count publishers
first_lane-within publishers place =
    let all : lane_count publishers ≡ first_lane publishers place + lane_count (drop place publishers) = ap lane_count (sym (take-append-drop place publishers)) ∙ sum_by-append (λ (q : Publisher). q.lanes) (take place publishers) (drop place publishers) in
    omega arith

-- ---- the publisher that owns a lane is the one in whose range it is

first_lane-cons : (p : Publisher) (publishers : List Publisher) (place : ℕ) → first_lane (p ∷ publishers) (suc place) ≡ p.lanes + first_lane publishers place
first_lane-cons p publishers place = sum_by-cons (λ (q : Publisher). q.lanes) p (take place publishers)

abbrev pub InRange : List Publisher → ℕ → ℕ → Type 0
InRange publishers place lane = (place < length publishers) × (first_lane publishers place ≤ lane) × (lane < first_lane publishers (place + 1))

range_first : (p : Publisher) (publishers : List Publisher) (lane : ℕ) → lane < p.lanes → InRange (p ∷ publishers) 0 lane
range_first p publishers lane below = (omega arith, omega arith, rw (first_lane-cons p publishers 0) (omega arith))

range_later : (p : Publisher) (publishers : List Publisher) (place lane : ℕ) → p.lanes ≤ lane → InRange publishers place (lane - p.lanes) → InRange (p ∷ publishers) (suc place) lane
range_later p publishers place lane above r =
    (omega (arith, r.0), rw (first_lane-cons p publishers place) (omega (arith, r.1)), rw (add-one, first_lane-cons p publishers (suc place)) (omega (arith, rw add-one at r.2)))

some_later : (o : Option ℕ) (place : ℕ) → option_map (λ i. i + 1) o ≡ Some place → (before : ℕ) × (o ≡ Some before) × (place ≡ suc before)
some_later None place e = absurd cc
some_later (Some i) place e = let same : i + 1 ≡ place = cc in (i, refl, omega arith)

pub owner_range : (publishers : List Publisher) (place lane : ℕ) → owner_among publishers lane ≡ Some place → InRange publishers place lane
owner_range [] place lane e = absurd cc
owner_range (p ∷ publishers) place lane e = by (nat_lt lane p.lanes) refl (λ before. owner_range publishers before (lane - p.lanes))
  where
    by : (b : Bool) → nat_lt lane p.lanes ≡ b → ((before : ℕ) → owner_among publishers (lane - p.lanes) ≡ Some before → InRange publishers before (lane - p.lanes)) → InRange (p ∷ publishers) place lane
    by true t later =
        let here : Some 0 ≡ Some place = rw t at e in
        let first : 0 ≡ place = cc in
        subst (λ n. InRange (p ∷ publishers) n lane) first (range_first p publishers lane ((Decides-ltb lane p.lanes).0 t))
    by false t later =
        let rest : option_map (λ i. i + 1) (owner_among publishers (lane - p.lanes)) ≡ Some place = rw t at e in
        let at = some_later (owner_among publishers (lane - p.lanes)) place rest in
        subst (λ n. InRange (p ∷ publishers) n lane) (sym at.2) (range_later p publishers at.0 lane (not_below lane p.lanes t) (later at.0 at.1))

pub range_owner : (publishers : List Publisher) (place lane : ℕ) → InRange publishers place lane → owner_among publishers lane ≡ Some place
range_owner [] place lane r = absurd (omega (arith, r.0))
range_owner (p ∷ publishers) zero lane r =
    let end : lane < p.lanes + first_lane publishers 0 = rw (first_lane-cons p publishers 0) at r.2 in
    let nothing : first_lane publishers 0 ≡ 0 = refl in
    let below : nat_lt lane p.lanes ≡ true = (Decides-ltb lane p.lanes).1 (omega arith) in
    rw below refl
range_owner (p ∷ publishers) (suc place) lane r =
    let start : p.lanes + first_lane publishers place ≤ lane = rw (first_lane-cons p publishers place) at r.1 in
    let end : lane < p.lanes + first_lane publishers (suc place) = rw (add-one, first_lane-cons p publishers (suc place)) at r.2 in
    let above : nat_lt lane p.lanes ≡ false = not_less lane p.lanes (omega arith) in
    let later : owner_among publishers (lane - p.lanes) ≡ Some place = range_owner publishers place (lane - p.lanes) (omega (arith, r.0), omega arith, rw add-one (omega arith)) in
    rw (above, later) (ap (λ n. Some n) (omega arith))
