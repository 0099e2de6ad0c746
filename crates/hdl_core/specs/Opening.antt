-- The world with which a service opens.
use Rattle.std.specs.Prelude.{◌≡◌, ℕ, zero, suc, List, [], ◌∷◌, ◌++◌, false, map, unwrap_or, IsTrue}
use Rattle.std.specs.Borrow.{Bor}
use Rattle.std.specs.FinMap as map
use Rattle.std.specs.FinSet as set
use Rattle.hdl_name.specs.Name.{canonical}
use Rattle.hdl_value.specs.declared.value.Value.{Value}
use Rattle.hdl_value.specs.Place.{Place}
use Rattle.hdl_rows.specs.Table.{Table}
use Rattle.hdl_tenants.specs.Register as register
use Rattle.hdl_tenants.specs.Register.{Register, Row, place}
use Rattle.hdl_laws.specs.Lanes.{fresh}
use Rattle.hdl_laws.specs.Worlds.{World, owner, layout, lane_of}
use Rattle.hdl_slots.specs.Lanes as slots
use Rattle.hdl_core.specs.declared.lane.Lane.{Lane}
use Rattle.hdl_core.specs.Held.{Held, held_lane}

abbrev pub entry_of : Row → Place × Value
entry_of row = (place row, row.1)

-- the table of the opening rows: their handles, and their values at their places
abbrev pub opening_table : List Row → Table
opening_table rows = record { handles = set.from_list (map (λ row. canonical row.0) rows); values = map.from_entries (map entry_of rows) }

-- what a reference to a row shows
abbrev pub row_at : Bor Row → Row
row_at r = r.now

-- the table with one more row
abbrev pub with_row : Table → Row → Table
with_row t row = record { handles = set.insert t.handles (canonical row.0); values = map.insert t.values (place row) row.1 }

-- The lanes are the publishers', closed, and speak their layouts, the hosted prefixes and the site information those of the tenants text, changes are taken, and the table holds its opening rows.
pub record IsOpening (r : Register) (w : World) : Type 0 where
  pub owners : (lane : ℕ) → owner w.site lane ≡ register.owner r lane
  pub hostings : w.site.hostings ≡ r.hostings
  pub layouts : (publisher : ℕ) → layout w.site publisher ≡ register.wire r publisher
  pub sites : w.site.sites ≡ r.sites
  pub takes_changes : IsTrue w.site.takes_changes
  pub closed : (lane : ℕ) → lane_of w lane ≡ fresh false
  pub table : w.table ≡ opening_table r.opening

-- The lanes are the publishers', closed, and speak their layouts, the hosted prefixes and the site information those of the tenants text, changes are taken, and the table is this one.
pub record IsResumed (r : Register) (t : Table) (w : World) : Type 0 where
  pub owners : (lane : ℕ) → owner w.site lane ≡ register.owner r lane
  pub hostings : w.site.hostings ≡ r.hostings
  pub layouts : (publisher : ℕ) → layout w.site publisher ≡ register.wire r publisher
  pub sites : w.site.sites ≡ r.sites
  pub takes_changes : IsTrue w.site.takes_changes
  pub closed : (lane : ℕ) → lane_of w lane ≡ fresh false
  pub table : w.table ≡ t

-- the first lanes, closed, each with its owner
abbrev pub first_lanes : Register → ℕ → List Lane
first_lanes r zero = []
first_lanes r (suc n) = first_lanes r n ++ record { publisher = unwrap_or (register.owner r n) 0; is_open = false } ∷ []

-- lanes without partial messages and challenges
abbrev pub closed_lanes : List Lane → List Held
closed_lanes lanes = map (λ lane. held_lane lane [] slots.fresh) lanes
