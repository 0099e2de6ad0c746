-- What a search for a mask reads of a table.
use Rattle.std.specs.Prelude.{ℕ, ◌+◌}
use Rattle.hdl_reach.specs.Cost.{Most, value_cost, grants_cost}
use Rattle.hdl_cache.specs.declared.searches.TheConstants.{LOOKED_UP}

-- one call of a search: this number of octets of lists, and the value that exceeds it
abbrev pub lists_cost : Most → ℕ
lists_cost most = LOOKED_UP + value_cost most

-- a call that begins a search looks at the heads of its handle's values too, and at those of type HS_ADMIN
abbrev pub mask_cost : Most → ℕ
mask_cost most = grants_cost most + lists_cost most
