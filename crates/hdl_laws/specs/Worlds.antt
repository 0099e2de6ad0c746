-- What the service is at a moment: who owns which lane and hosts which prefix, the table, and the lanes.
use Rattle.std.specs.Prelude.{ℕ, List, Bool, true, false, Option, Some, None, unwrap_or}
use Rattle.std.specs.Ordering.{nat_cmp}
use Rattle.std.specs.FinMap as map
use Rattle.hdl_auth.specs.declared.algorithm.Algorithm.{Algorithm}
use Rattle.hdl_auth.specs.declared.algorithm.Algorithm.TheVariants.{Sha1}
use Rattle.hdl_value.specs.declared.wire.Wire.{Wire}
use Rattle.hdl_value.specs.declared.wire.Wire.TheVariants.{Profile}
use Rattle.hdl_rows.specs.Table.{Table}
use Rattle.hdl_tenants.specs.Register.{Hosting, SiteInfo, hosts_among, algorithm_among, site_among}
use Rattle.hdl_ops.specs.Decisions.{told_by}
use Rattle.hdl_laws.specs.Lanes.{LaneState, fresh}
use Rattle.hdl_laws.specs.LaneProfile.{LaneProfile}

-- which publisher owns a lane, which prefixes are hosted for whom, each with its hash function, by whose layout a publisher's lanes
-- speak, the site information of publishers, and whether changes are taken
pub record Site : Type 0 where
  pub owners : map.FinMap nat_cmp ℕ
  pub hostings : List Hosting
  pub layouts : map.FinMap nat_cmp Wire
  pub sites : List SiteInfo
  pub takes_changes : Bool

pub record World : Type 0 where
  pub site : Site
  pub table : Table
  pub lanes : map.FinMap nat_cmp LaneState

-- the same world, but taking no changes
abbrev pub read_only : World → World
read_only world = record world { site = record world.site { takes_changes = false } }

-- the world with another table
abbrev pub with_table : World → Table → World
with_table world table = record world { table = table }

abbrev pub owner : Site → ℕ → Option ℕ
owner site lane = map.get site.owners lane

abbrev pub hosts : Site → ℕ → List ℕ → Bool
hosts site publisher prefix = hosts_among site.hostings publisher prefix

-- the hash function of a prefix on the publisher's lanes
abbrev pub algorithms : Site → ℕ → List ℕ → Algorithm
algorithms site publisher prefix = algorithm_among site.hostings publisher prefix

-- the same by a lane's owner
abbrev pub algorithms_for : Site → Option ℕ → List ℕ → Algorithm
algorithms_for site None prefix = Sha1
algorithms_for site (Some publisher) prefix = algorithms site publisher prefix

-- the layout that is spoken on the publisher's lanes
abbrev pub layout : Site → ℕ → Wire
layout site publisher = unwrap_or (map.get site.layouts publisher) Profile

-- how the publisher's lanes speak: by its layout, with its own site information, and by whether the service takes changes
abbrev pub lane_profile : Site → ℕ → LaneProfile
lane_profile site publisher = record { wire = layout site publisher; site = told_by (layout site publisher) (site_among site.sites publisher); takes_changes = site.takes_changes }

-- the same by a lane's owner
abbrev pub lane_profile_for : Site → Option ℕ → LaneProfile
lane_profile_for site None = record { wire = Profile; site = None; takes_changes = true }
lane_profile_for site (Some publisher) = lane_profile site publisher

-- a lane of which nothing is kept is closed
abbrev pub lane_of : World → ℕ → LaneState
lane_of world lane = unwrap_or (map.get world.lanes lane) (fresh false)
