-- What keeping the values of a handle costs, in octets.
use Rattle.std.specs.Prelude.{Vec, ℕ, ◌+◌, List, length, sum_by}
use Rattle.std.specs.declared.alloc.Global.{Global}
use Rattle.hdl_value.specs.declared.references.RawRef.{RawRef}
use Rattle.hdl_value.specs.declared.value.Value.{Value}
use Rattle.hdl_cachedrows.specs.declared.cost.TheConstants.{HANDLE_COST, VALUE_COST, REFERENCE_COST}
use Rattle.hdl_cachedrows.specs.declared.cached_handle.CachedHandle.{CachedHandle}
use Rattle.hdl_cachedrows.specs.declared.cached_handle.CachedHandle.TheVariants.{Values, Heads}

-- a reference: its parts, and its handle
abbrev pub reference_cost : RawRef → ℕ
reference_cost r = REFERENCE_COST + length r.handle

-- a value: its parts, its type, its data and its references
abbrev pub value_cost : Value → ℕ
value_cost v = VALUE_COST + length v.kind + length v.bytes + sum_by reference_cost v.references

-- a handle with its values: its place among those that are kept, its octets, and its values
abbrev pub cost : List ℕ → List Value → ℕ
cost h vs = HANDLE_COST + length h + sum_by value_cost vs

-- the values, or heads, that are kept of a handle
abbrev pub kept_values : CachedHandle → List Value
kept_values (Values vs) = vs.items
kept_values (Heads vs) = vs.items

-- a handle of which this is kept
abbrev pub kept_cost : List ℕ → CachedHandle → ℕ
kept_cost h k = cost h (kept_values k)

-- a handle, and what is kept of it
abbrev pub Entry : Type 0
Entry = Vec ℕ Global × CachedHandle

abbrev pub entry_cost : Entry → ℕ
entry_cost e = kept_cost e.0.items e.1

-- all that is kept
abbrev pub total : List Entry → ℕ
total es = sum_by entry_cost es
