-- How many looks a search makes at most from here on.
use Rattle.std.specs.Prelude.{◌≤◌, ℕ, ◌+◌, ◌*◌, ◌-◌, List, [], ◌∷◌, ◌++◌, map, length, bit_or, Option, Some, None, IsTrue}
use Rattle.std.specs.List.{flat_map, AllByRecursion}
use Rattle.std.specs.FinMap as map
use Rattle.hdl_value.specs.Place.{Place}
use Rattle.hdl_value.specs.Refs.{listed_places}
use Rattle.hdl_value.specs.declared.value.Value.{Value}
use Rattle.hdl_rows.specs.Table.{Table, values_of}
use Rattle.hdl_reach.specs.declared.found.Found.{Found}
use Rattle.hdl_reach.specs.declared.search.Search.{Search}
use Rattle.hdl_reach.specs.Reach.{is_among, grants}
use Rattle.hdl_reach.specs.Found.{IsWithin, mask_at}
use Rattle.hdl_reach.specs.Search.{handle_of}

-- the bits of all these masks
abbrev pub all_bits : List (ℕ × Place) → ℕ
all_bits [] = 0
all_bits (g ∷ gs) = bit_or g.0 (all_bits gs)

-- the places that are granted, and those that any list of the table holds
abbrev pub all_places : Table → List (ℕ × Place) → List Place
all_places t gs = map (λ (g : ℕ × Place). g.1) gs ++ flat_map (λ (e : Place × Value). listed_places e.1) (map.entries t.values)

-- how much a mask may still rise, if it has no bits but all of these
abbrev pub lack : ℕ → Option ℕ → ℕ
lack all None = all + 1
lack all (Some m) = all - m

-- the same of each of these places
abbrev pub lacks : ℕ → List Place → Found → ℕ
lacks all [] f = 0
lacks all (p ∷ ps) f = lack all (mask_at f p) + lacks all ps f

-- Each place that waits is looked up, and a place waits again only if its mask rose.
abbrev pub looks : ℕ → List Place → Found → ℕ
looks all ps f = 2 * lacks all ps f + length f.waiting.items

abbrev pub looks_left : Table → Search → ℕ
looks_left t s = looks (all_bits (grants (values_of t (handle_of s)))) (all_places t (grants (values_of t (handle_of s)))) s.found

-- with a mask more at these places there are no more looks, whatever places have these among them and whatever bits all masks are within
abbrev pub AddsNone : Found → Found → List Place → Type 0
AddsNone old new more =
    (all : ℕ) (ps : List Place) → AllByRecursion (λ p. IsTrue (is_among p ps)) more → ((p : Place) → IsWithin (mask_at new p) (Some all)) → looks all ps new ≤ looks all ps old
