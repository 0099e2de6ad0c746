-- What is held of lanes, and one of them with another state.
use Rattle.std.proofs.Common.{◌≡◌, ℕ, zero, suc, ◌<◌, ◌≤◌, List, [], ◌∷◌, length, set, get_or, replicate, refl, sym, ap, ◌∙◌, arith, subst, Bool, false}
use Rattle.std.proofs.lemmas.List.{set-get_or}
use Rattle.hdl_pool.specs.Partial.{Partial}
use Rattle.hdl_pool.specs.Taking as pool
use Rattle.hdl_slots.specs.Lanes as slots
use Rattle.hdl_slots.specs.Lanes.{lane_at}
use Rattle.hdl_laws.specs.Lanes.{LaneState, fresh, with_partials}
use Rattle.hdl_core.specs.declared.lane.Lane.{Lane}
use Rattle.hdl_core.specs.Held.{Held, held_lane, held_lanes, held_at, state_at, with_state}
use Rattle.hdl_core.specs.Opening.{closed_lanes}

abbrev Pools : Type 0
Pools = List (List Partial)

abbrev Challenges : Type 0
Challenges = List slots.LaneState

pub length-held_lanes : (lanes : List Lane) (ps : Pools) (cs : Challenges) → length lanes ≤ length ps → length lanes ≤ length cs → length (held_lanes lanes ps cs) ≡ length lanes
length-held_lanes [] ps cs few less = refl
length-held_lanes (lane ∷ lanes) [] cs few less = absurd (omega (arith, few))
length-held_lanes (lane ∷ lanes) (p ∷ ps) [] few less = absurd (omega (arith, less))
length-held_lanes (lane ∷ lanes) (p ∷ ps) (c ∷ cs) few less = ap suc (length-held_lanes lanes ps cs (omega (arith, few)) (omega (arith, less)))

-- no more lanes are held than there are
few_held : (lanes : List Lane) (ps : Pools) (cs : Challenges) (n : ℕ) → n < length (held_lanes lanes ps cs) → n < length lanes
few_held [] ps cs n h = h
few_held (lane ∷ lanes) [] cs n h = absurd (omega (arith, h))
few_held (lane ∷ lanes) (p ∷ ps) [] n h = absurd (omega (arith, h))
few_held (lane ∷ lanes) (p ∷ ps) (c ∷ cs) zero h = omega arith
few_held (lane ∷ lanes) (p ∷ ps) (c ∷ cs) (suc n) h = let rest = few_held lanes ps cs n (omega (arith, h)) in omega (arith, rest)

held_of : (lanes : List Lane) (ps : Pools) (cs : Challenges) (n : ℕ) (d : Lane) → length lanes ≤ length ps → length lanes ≤ length cs → n < length lanes
    → held_at (held_lanes lanes ps cs) n ≡ held_lane (get_or lanes n d) (pool.lane_at ps n) (lane_at cs n)
held_of [] ps cs n d few less h = absurd (omega (arith, h))
held_of (lane ∷ lanes) [] cs n d few less h = absurd (omega (arith, few))
held_of (lane ∷ lanes) (p ∷ ps) [] n d few less h = absurd (omega (arith, less))
held_of (lane ∷ lanes) (p ∷ ps) (c ∷ cs) zero d few less h = refl
held_of (lane ∷ lanes) (p ∷ ps) (c ∷ cs) (suc n) d few less h = held_of lanes ps cs n d (omega (arith, few)) (omega (arith, less)) (omega (arith, h))

held_set : (lanes : List Lane) (ps : Pools) (cs : Challenges) (n : ℕ) (lane : Lane) (p : List Partial) (c : slots.LaneState) → length lanes ≤ length ps → length lanes ≤ length cs → n < length lanes
    → held_lanes (set lanes n lane) (set ps n p) (set cs n c) ≡ set (held_lanes lanes ps cs) n (held_lane lane p c)
held_set [] ps cs n lane p c few less h = absurd (omega (arith, h))
held_set (x ∷ lanes) [] cs n lane p c few less h = absurd (omega (arith, few))
held_set (x ∷ lanes) (y ∷ ps) [] n lane p c few less h = absurd (omega (arith, less))
held_set (x ∷ lanes) (y ∷ ps) (z ∷ cs) zero lane p c few less h = refl
held_set (x ∷ lanes) (y ∷ ps) (z ∷ cs) (suc n) lane p c few less h = ap (λ rest. held_lane x y z ∷ rest) (held_set lanes ps cs n lane p c (omega (arith, few)) (omega (arith, less)) (omega (arith, h)))

-- nothing is written
pub kept : (lanes : List Held) (n : ℕ) → lanes ≡ with_state lanes n (state_at lanes n)
kept lanes n = sym (set-get_or lanes n _)

pub closed : (lanes : List Lane) (n : ℕ) → length lanes ≤ n → held_lanes lanes (replicate n []) (replicate n slots.fresh) ≡ closed_lanes lanes
closed [] n h = refl
closed (lane ∷ lanes) zero h = absurd (omega (arith, h))
closed (lane ∷ lanes) (suc n) h = ap (λ rest. held_lane lane [] slots.fresh ∷ rest) (closed lanes n (omega (arith, h)))

-- ---- the lanes as contracts see them

abbrev nobodys : Lane
nobodys = record { publisher = 0; is_open = false }

module _ (t : List Held) (lanes : List Lane) (ps : Pools) (cs : Challenges) (n : ℕ) (view : held_lanes lanes ps cs ≡ t) (few : length lanes ≤ 64) (pooled : length ps ≡ 64) (slotted : length cs ≡ 64) (there : n < length t) where
  room : length lanes ≤ length ps
  room = omega (arith, few, pooled)

  more_room : length lanes ≤ length cs
  more_room = omega (arith, few, slotted)

  pub inside : n < length lanes
  inside = few_held lanes ps cs n (subst (λ (hs : List Held). n < length hs) (sym view) there)

  pub within : n < 64
  within = let lane = inside in omega (arith, lane, few)

  here : (d : Lane) → held_lane (get_or lanes n d) (pool.lane_at ps n) (lane_at cs n) ≡ held_at t n
  here d = sym (held_of lanes ps cs n d room more_room inside) ∙ ap (λ (hs : List Held). held_at hs n) view

  pub publisher_is : (d : Lane) → (get_or lanes n d).publisher ≡ (held_at t n).publisher
  publisher_is d = ap (λ (h : Held). h.publisher) (here d)

  pub open_is : (d : Lane) → (get_or lanes n d).is_open ≡ (state_at t n).is_open
  open_is d = ap (λ (h : Held). h.state.is_open) (here d)

  pub partials_are : pool.lane_at ps n ≡ (state_at t n).partials
  partials_are = ap (λ (h : Held). h.state.partials) (here nobodys)

  pub challenges_are : lane_at cs n ≡ (state_at t n).challenges
  challenges_are = ap (λ (h : Held). h.state.challenges) (here nobodys)

  -- a lane, its partial messages and its challenges are written
  written : (d lane : Lane) (p : List Partial) (c : slots.LaneState) (s : LaneState) → lane.publisher ≡ (get_or lanes n d).publisher → record { is_open = lane.is_open; partials = p; challenges = c } ≡ s
      → held_lanes (set lanes n lane) (set ps n p) (set cs n c) ≡ with_state t n s
  written d lane p c s owner state =
      held_set lanes ps cs n lane p c room more_room inside
      ∙ ap (set (held_lanes lanes ps cs) n) (λ i. record { publisher = (owner ∙ publisher_is d) i; state = state i })
      ∙ ap (λ (hs : List Held). set hs n (record { publisher = (held_at t n).publisher; state = s })) view

  pub renewed : (d lane : Lane) (up : Bool) (ps' : Pools) (cs' : Challenges) → lane.publisher ≡ (get_or lanes n d).publisher → lane.is_open ≡ up → ps' ≡ set ps n [] → cs' ≡ set cs n slots.fresh
      → held_lanes (set lanes n lane) ps' cs' ≡ with_state t n (fresh up)
  renewed d lane up ps' cs' owner state pieces challenges =
      (λ i. held_lanes (set lanes n lane) (pieces i) (challenges i)) ∙ written d lane [] slots.fresh (fresh up) owner (λ i. record { is_open = state i; partials = []; challenges = slots.fresh })

  pub rewritten : (f : slots.LaneState → slots.LaneState) (cs' : Challenges) → cs' ≡ set cs n (f (lane_at cs n))
      → held_lanes lanes ps cs' ≡ with_state t n (record { is_open = (state_at t n).is_open; partials = (state_at t n).partials; challenges = f (state_at t n).challenges })
  rewritten f cs' is =
      (λ i. held_lanes (sym (set-get_or lanes n nobodys) i) (sym (set-get_or ps n []) i) (is i))
      ∙ written nobodys (get_or lanes n nobodys) (pool.lane_at ps n) (f (lane_at cs n)) (record { is_open = (state_at t n).is_open; partials = (state_at t n).partials; challenges = f (state_at t n).challenges }) refl (λ i. record { is_open = open_is nobodys i; partials = partials_are i; challenges = f (challenges_are i) })

  pub repooled : (f : List Partial → List Partial) (ps' : Pools) → ps' ≡ set ps n (f (pool.lane_at ps n)) → held_lanes lanes ps' cs ≡ with_state t n (with_partials (state_at t n) (f (state_at t n).partials))
  repooled f ps' is =
      (λ i. held_lanes (sym (set-get_or lanes n nobodys) i) (is i) (sym (set-get_or cs n slots.fresh) i))
      ∙ written nobodys (get_or lanes n nobodys) (f (pool.lane_at ps n)) (lane_at cs n) (with_partials (state_at t n) (f (state_at t n).partials)) refl (λ i. record { is_open = open_is nobodys i; partials = f (partials_are i); challenges = challenges_are i })
