-- When what is kept is a table's.
use Rattle.std.specs.Prelude.{ℕ, List, true, false, None, ◌≡◌, ◌≢◌, Contains}
use Rattle.hdl_value.specs.declared.value.Value.{Value}
use Rattle.hdl_rows.specs.Heads.{heads_of}
use Rattle.hdl_rows.specs.Table.{Table, place, has, at, values_of, HaveTheirIndexes}
use Rattle.hdl_cachedrows.specs.declared.cached_handle.CachedHandle.{CachedHandle}
use Rattle.hdl_cachedrows.specs.declared.cached_handle.CachedHandle.TheVariants.{Values, Heads}
use Rattle.hdl_cachedrows.specs.Cost.{Entry}

-- The handle is there, and these are its values.
pub record IsFound (t : Table) (h : List ℕ) (vs : List Value) : Type 0 where
  pub there : has t h ≡ true
  pub found : vs ≡ values_of t h
  pub by_index : HaveTheirIndexes t h vs

-- The handle is there, and these are the heads of its values.
pub record AreHeads (t : Table) (h : List ℕ) (vs : List Value) : Type 0 where
  pub there : has t h ≡ true
  pub found : vs ≡ heads_of t h
  pub by_index : HaveTheirIndexes t h (values_of t h)

-- The handle isn't there, and neither is a value of it.
pub record IsAbsent (t : Table) (h : List ℕ) : Type 0 where
  pub absent : has t h ≡ false
  pub none : (i : ℕ) → at t (place h i) ≡ None

-- what is kept of a handle is the table's
abbrev pub IsKept : Table → List ℕ → CachedHandle → Type 0
IsKept t h (Values vs) = IsFound t h vs.items
IsKept t h (Heads vs) = AreHeads t h vs.items

-- all that is kept is the table's
abbrev pub AreTrue : Table → List Entry → Type 0
AreTrue t es = (e : Entry) → Contains es e → IsKept t e.0.items e.1

-- at every handle but one the second table answers as the first
abbrev pub AgreeBut : List ℕ → Table → Table → Type 0
AgreeBut h t u = (g : List ℕ) → g ≢ h → (has u g ≡ has t g) × ((i : ℕ) → at u (place g i) ≡ at t (place g i)) × (values_of u g ≡ values_of t g)
