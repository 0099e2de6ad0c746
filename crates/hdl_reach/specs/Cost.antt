-- What is read of a table, as its calls count it.
use Rattle.std.specs.Prelude.{◌≤◌, ℕ, ◌+◌, List, sum_by, if◌then◌else◌}
use Rattle.hdl_value.specs.Place.{Place}
use Rattle.hdl_value.specs.Refs.{is_admin}
use Rattle.hdl_value.specs.declared.value.Value.{Value}
use Rattle.hdl_rows.specs.declared.reads.TheConstants.{CALL_OCTETS}
use Rattle.hdl_rows.specs.Heads.{heads_of}
use Rattle.hdl_rows.specs.Reads.{of_value, value_octets, values_octets, names_octets}
use Rattle.hdl_rows.specs.Table.{Table, at, values_of, names_of}

-- a call for each HS_ADMIN value among these, and the value
abbrev pub admin_reads : Value → ℕ
admin_reads v = if is_admin v then CALL_OCTETS + value_octets v else 0

abbrev pub admins_reads : List Value → ℕ
admins_reads vs = sum_by admin_reads vs

-- what a search begins with: the heads of the handle's values, and each HS_ADMIN value once
abbrev pub grants_reads : Table → List ℕ → ℕ
grants_reads t h = CALL_OCTETS + values_octets (heads_of t h) + admins_reads (values_of t h)

-- Octets: of one value, of the heads of one handle's values, of its HS_ADMIN values by a call for each, and of the list of one naming authority's handles.
pub record Most : Type 0 where
  pub value : ℕ
  pub heads : ℕ
  pub admins : ℕ
  pub names : ℕ

-- no value, no handle and no list of the table counts more
pub record HasAtMost (t : Table) (most : Most) : Type 0 where
  pub value : (p : Place) → of_value (at t p) ≤ most.value
  pub heads : (h : List ℕ) → values_octets (heads_of t h) ≤ most.heads
  pub admins : (h : List ℕ) → admins_reads (values_of t h) ≤ most.admins
  pub names : (a : List ℕ) → names_octets (names_of t a) ≤ most.names

-- each table has such bounds
abbrev pub HaveMost : Type 0
HaveMost = (t : Table) → (most : Most) × HasAtMost t most

-- what was read rose by no more than this, whatever bounds the table
abbrev pub ReadsWithin : Table → (Most → ℕ) → ℕ → ℕ → Type 0
ReadsWithin t cost old new = (most : Most) → HasAtMost t most → new ≤ old + cost most

-- one call that gives a value, the heads of a handle's values, or the handles of an authority

abbrev pub value_cost : Most → ℕ
value_cost most = CALL_OCTETS + most.value

abbrev pub heads_cost : Most → ℕ
heads_cost most = CALL_OCTETS + most.heads

-- the heads of a handle's values, and then those of type HS_ADMIN
abbrev pub grants_cost : Most → ℕ
grants_cost most = heads_cost most + most.admins

abbrev pub names_cost : Most → ℕ
names_cost most = CALL_OCTETS + most.names
