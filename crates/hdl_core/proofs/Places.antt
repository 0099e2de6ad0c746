-- Maps of the elements of a list by their places, and the world of a service.
use Rattle.std.proofs.Common.{◌≡◌, ℕ, zero, suc, ◌+◌, ◌<◌, Bool, List, [], ◌∷◌, true, false, cond, ◌==◌, Some, map, length, set, refl, sym, ap, ◌∙◌, subst, option_map, arith, nat_cmp, unwrap_or, get_or, Option, None}
use Rattle.std.specs.Prelude.{slice_get}
use Rattle.std.specs.Cmp.{nat_cmp_total, unsigned_tied}
use Rattle.std.specs.FinMap as map
use Rattle.std.specs.FinMap.{nat_cmp-IsAntisymmetric, find}
use Rattle.std.proofs.lemmas.Bool.Decides.{nat_tests}
use Rattle.std.proofs.lemmas.Option.{slice_get-map, slice_get-get_or}
use Rattle.std.proofs.lemmas.List.{length-map}
use Rattle.hdl_rows.specs.Table.{Table}
use Rattle.hdl_tenants.specs.Register.{Publisher, Register, wire, site, site_among}
use Rattle.hdl_value.specs.declared.wire.Wire.{Wire}
use Rattle.hdl_laws.specs.LaneProfile.{LaneProfile}
use Rattle.hdl_ops.specs.Decisions.{told_by}
use Rattle.hdl_value.specs.declared.wire.Wire.TheVariants.{Profile}
use Rattle.std.specs.Option.{option_map_or}
use Rattle.hdl_ops.specs.Tables.{apply_if}
use Rattle.hdl_laws.specs.Lanes.{fresh}
use Rattle.hdl_events.specs.declared.Event.{Event}
use Rattle.hdl_laws.specs.Worlds.{owner, lane_of, layout, lane_profile}
use Rattle.hdl_laws.specs.Effects.{Effect}
use Rattle.hdl_laws.specs.Steps.{after_effect, moment_of}
use Rattle.hdl_core.specs.Held.{Held}
use Rattle.hdl_core.specs.Worlds.{with_numbers, by_place, world_of}

same_number : (a b : ℕ) → a ≡ b → (a == b) ≡ true
same_number a b e = grind (arith, nat_tests)

other_number : (a b : ℕ) → (a ≡ b → ⊥) → (a == b) ≡ false
other_number a b f = grind (arith, nat_tests)

find_numbered : {X : Type 0} (n : ℕ) (xs : List X) (q p : ℕ) → p ≡ n + q → find nat_cmp p (with_numbers n xs) ≡ slice_get xs q
find_numbered n [] q p e = refl
find_numbered n (x ∷ xs) zero p e = ap (λ b. cond b (Some x) (find nat_cmp p (with_numbers (n + 1) xs))) (unsigned_tied p n ∙ same_number p n (omega arith))
find_numbered n (x ∷ xs) (suc q) p e =
    ap (λ b. cond b (Some x) (find nat_cmp p (with_numbers (n + 1) xs))) (unsigned_tied p n ∙ other_number p n (λ (f : p ≡ n). omega arith))
    ∙ find_numbered (n + 1) xs q p (omega arith)

pub get-by_place : {X : Type 0} (xs : List X) (q : ℕ) → map.get (by_place xs) q ≡ slice_get xs q
get-by_place xs q = map.get-from_entries nat_cmp_total (with_numbers 0 xs) q ∙ find_numbered 0 xs q q (omega arith)

same_test : (q l : ℕ) → (q == l) ≡ (suc q == suc l)
same_test q l = grind (arith, nat_tests)

get_after_set : {X : Type 0} (xs : List X) (l : ℕ) (y : X) (q : ℕ) → l < length xs → slice_get (set xs l y) q ≡ cond (q == l) (Some y) (slice_get xs q)
get_after_set [] l y q h = absurd (omega arith)
get_after_set (x ∷ xs) zero y zero h = refl
get_after_set (x ∷ xs) zero y (suc q) h = ap (λ b. cond b (Some y) (slice_get xs q)) (sym (other_number (suc q) 0 (λ (e : suc q ≡ 0). omega arith)))
get_after_set (x ∷ xs) (suc l) y zero h = ap (λ b. cond b (Some y) (Some x)) (sym (other_number 0 (suc l) (λ (e : 0 ≡ suc l). omega arith)))
get_after_set (x ∷ xs) (suc l) y (suc q) h = get_after_set xs l y q (omega arith) ∙ ap (λ b. cond b (Some y) (slice_get xs q)) (same_test q l)

pub by_place-set : {X : Type 0} (xs : List X) (l : ℕ) (y : X) → l < length xs → by_place (set xs l y) ≡ map.insert (by_place xs) l y
by_place-set xs l y h = map.same_map nat_cmp_total nat_cmp-IsAntisymmetric _ _ (λ q.
    get-by_place (set xs l y) q
    ∙ get_after_set xs l y q h
    ∙ (λ i. cond (sym (unsigned_tied q l) i) (Some y) (sym (get-by_place xs q) i))
    ∙ sym (map.get-insert nat_cmp_total (by_place xs) l y q))

map-set : {X Y : Type 0} (f : X → Y) (xs : List X) (l : ℕ) (y : X) → map f (set xs l y) ≡ set (map f xs) l (f y)
map-set f [] l y = refl
map-set f (x ∷ xs) zero y = refl
map-set f (x ∷ xs) (suc l) y = ap (λ ys. f x ∷ ys) (map-set f xs l y)

set_same : {X : Type 0} (xs : List X) (l : ℕ) (d : X) → l < length xs → set xs l (get_or xs l d) ≡ xs
set_same xs l d h = Rattle.std.proofs.lemmas.List.set-get_or xs l d

-- ---- the world of the lanes

pub owner_of : (r : Register) (b : Bool) (lanes : List Held) (t : Table) (l : ℕ) → owner (world_of r b lanes t).site l ≡ option_map (λ (x : Held). x.publisher) (slice_get lanes l)
unfolding world_of
owner_of r b lanes t l = get-by_place (map (λ (x : Held). x.publisher) lanes) l ∙ slice_get-map _ lanes l

mapped_or : {X Y : Type 0} (f : X → Y) (o : Option X) (d : Y) → unwrap_or (option_map f o) d ≡ option_map_or f o d
mapped_or f None d = refl
mapped_or f (Some x) d = refl

pub layout_of : (r : Register) (b : Bool) (lanes : List Held) (t : Table) (u : ℕ) → wire r u ≡ layout (world_of r b lanes t).site u
unfolding world_of
layout_of r b lanes t u =
    sym (mapped_or (λ (p : Publisher). p.wire) (slice_get r.publishers u) Profile)
    ∙ sym (ap (λ (o : Option Wire). unwrap_or o Profile) (get-by_place (map (λ (p : Publisher). p.wire) r.publishers) u ∙ slice_get-map (λ (p : Publisher). p.wire) r.publishers u))

-- how the lanes of the publisher at this place speak
abbrev pub register_speech : Register → Bool → ℕ → LaneProfile
register_speech r b u = record { wire = wire r u; site = told_by (wire r u) (site r u); takes_changes = b }

sites_of : (r : Register) (b : Bool) (lanes : List Held) (t : Table) (u : ℕ) → site r u ≡ site_among (world_of r b lanes t).site.sites u
unfolding world_of
sites_of r b lanes t u = refl

taken_in : (r : Register) (b : Bool) (lanes : List Held) (t : Table) → b ≡ (world_of r b lanes t).site.takes_changes
unfolding world_of
taken_in r b lanes t = refl

pub speech_of : (r : Register) (b : Bool) (lanes : List Held) (t : Table) (u : ℕ) → register_speech r b u ≡ lane_profile (world_of r b lanes t).site u
speech_of r b lanes t u = λ i. record { wire = layout_of r b lanes t u i; site = told_by (layout_of r b lanes t u i) (sites_of r b lanes t u i); takes_changes = taken_in r b lanes t i }

pub lane_of_world : (r : Register) (b : Bool) (lanes : List Held) (t : Table) (l : ℕ) → lane_of (world_of r b lanes t) l ≡ unwrap_or (option_map (λ (y : Held). y.state) (slice_get lanes l)) (fresh false)
unfolding world_of
lane_of_world r b lanes t l = ap (λ o. unwrap_or o (fresh false)) (get-by_place (map (λ (y : Held). y.state) lanes) l ∙ slice_get-map (λ (y : Held). y.state) lanes l)

pub lane_here : (r : Register) (b : Bool) (lanes : List Held) (t : Table) (l : ℕ) (d : Held) → l < length lanes → lane_of (world_of r b lanes t) l ≡ (get_or lanes l d).state
lane_here r b lanes t l d h = lane_of_world r b lanes t l ∙ ap (λ o. unwrap_or (option_map (λ (y : Held). y.state) o) (fresh false)) (slice_get-get_or lanes l d h)

-- a lane that is written, with the table, is the effect
pub world_after : (r : Register) (b : Bool) (lanes : List Held) (t t' : Table) (e : Event) (x d : Held) (eff : Effect) → e.lane < length lanes → x.publisher ≡ (get_or lanes e.lane d).publisher → x.state ≡ eff.state → t' ≡ apply_if t (moment_of e.what) eff.change
    → world_of r b (set lanes e.lane x) t' ≡ after_effect (world_of r b lanes t) e eff
unfolding world_of
world_after r b lanes t t' e x d eff h same state table =
    let owners : by_place (map (λ (y : Held). y.publisher) (set lanes e.lane x)) ≡ by_place (map (λ (y : Held). y.publisher) lanes) =
    ap by_place (map-set (λ (y : Held). y.publisher) lanes e.lane x
    ∙ ap (set (map (λ (y : Held). y.publisher) lanes) e.lane) same
    ∙ sym (map-set (λ (y : Held). y.publisher) lanes e.lane (get_or lanes e.lane d))
    ∙ ap (map (λ (y : Held). y.publisher)) (set_same lanes e.lane d h)) in
    let states : by_place (map (λ (y : Held). y.state) (set lanes e.lane x)) ≡ map.insert (by_place (map (λ (y : Held). y.state) lanes)) e.lane eff.state =
    ap by_place (map-set (λ (y : Held). y.state) lanes e.lane x)
    ∙ by_place-set (map (λ (y : Held). y.state) lanes) e.lane x.state (subst (λ n. e.lane < n) (sym (length-map lanes (λ (y : Held). y.state))) h)
    ∙ ap (map.insert (by_place (map (λ (y : Held). y.state) lanes)) e.lane) state in
    λ i. record { site = record { owners = owners i; hostings = r.hostings; layouts = by_place (map (λ (p : Publisher). p.wire) r.publishers); sites = r.sites; takes_changes = b }; table = table i; lanes = states i }
