-- The lanes' cells, four of each lane.
use Rattle.std.specs.Prelude.{◌≡◌, ◌<◌, ℕ, Bool, false, List, [], length, map, slice_index_or, Option, None}
use Rattle.std.specs.List.{filter_map}
use Rattle.std.specs.Option.{option_map_or}
use Rattle.hdl_limits.specs.declared.TheConstants.{LANES, PARTIALS_MAX}
use Rattle.hdl_pool.specs.declared.piece.MessageKey.{MessageKey}
use Rattle.hdl_pool.specs.Partial.{Partial, is_of}

-- the cells of a lane
abbrev pub cells_at : List (List (Option Partial)) → ℕ → List (Option Partial)
cells_at cells lane = slice_index_or cells lane []

-- the contents of one cell
abbrev pub cell_at : List (List (Option Partial)) → ℕ → ℕ → Option Partial
cell_at cells lane place = slice_index_or (cells_at cells lane) place None

-- the contents of the cells of a lane, in their order
abbrev pub contents : List (Option Partial) → List Partial
contents = filter_map (λ content. content)

-- the contents of the cells of all lanes
abbrev pub lanes_of : List (List (Option Partial)) → List (List Partial)
lanes_of = map contents

-- each lane has its cells
pub record AreFours (cells : List (List (Option Partial))) : Type 0 where
  pub lanes : length cells ≡ LANES
  pub four : (lane : ℕ) → lane < LANES → length (cells_at cells lane) ≡ PARTIALS_MAX

-- a cell has a partial message of this key
abbrev pub holds : MessageKey → Option Partial → Bool
holds key content = option_map_or (is_of key) content false
