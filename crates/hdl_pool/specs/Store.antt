-- The cells are slots of a slab. A table has the slots' keys, four for each lane, lane by lane.
use Rattle.std.specs.Prelude.{◌≡◌, ◌≢◌, ℕ, zero, suc, ◌*◌, ◌<◌, List, [], ◌∷◌, length, map, take, drop, slice_index, Option, None, IsSome, unwrap_or}
use Rattle.slab.specs.Slab.{Slab, get}
use Rattle.hdl_limits.specs.declared.TheConstants.{LANES, PARTIALS_MAX}
use Rattle.hdl_pool.specs.Partial.{Partial}

-- a list cut into this number of lists of four
unfoldable pub fours : {A : Type 0} → ℕ → List A → List (List A)
fours zero xs = []
fours (suc n) xs = take PARTIALS_MAX xs ∷ fours n (drop PARTIALS_MAX xs)

-- the contents of the slot with this key
abbrev pub content_at : Slab (Option Partial) → ℕ → Option Partial
content_at slab key = unwrap_or (get slab key) None

-- the cells of all lanes
abbrev pub stored_cells : Slab (Option Partial) → List ℕ → List (List (Option Partial))
stored_cells slab keys = fours LANES (map (content_at slab) keys)

-- each of the keys has a slot of its own
pub record AreKeys (slab : Slab (Option Partial)) (keys : List ℕ) : Type 0 where
  pub count : length keys ≡ LANES * PARTIALS_MAX
  pub present : (n : ℕ) → n < LANES * PARTIALS_MAX → IsSome (get slab (slice_index keys n))
  pub differ : (m n : ℕ) → m < n → n < LANES * PARTIALS_MAX → slice_index keys m ≢ slice_index keys n
