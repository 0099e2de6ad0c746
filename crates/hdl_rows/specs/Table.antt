-- The contents of a table, what is read of it, and the effect of each write.
use Rattle.std.specs.Prelude.{refl, Vec, ℕ, ◌+◌, ◌^◌, ◌-◌, min, List, [], ◌∷◌, Bool, true, not, ◌==◌, map, find, Option, Some, None, Result, Ok, Err, OnOk, OnErr, ◌⊎◌, ◌≡◌, ◌≢◌}
use Rattle.std.specs.List.{AllByRecursion}
use Rattle.std.specs.declared.alloc.Global.{Global}
use Rattle.std.specs.FinMap as map
use Rattle.std.specs.FinSet as set
use Rattle.std.specs.Coded.{Coded, code_by, coded×, coded_ℕ}
use Rattle.hdl_name.specs.Name.{authority}
use Rattle.hdl_value.specs.contracts.value.Value.{the_row}
use Rattle.hdl_value.specs.declared.value.Value.{Value}
use Rattle.hdl_value.specs.Place.{Place, handle_cmp, place_cmp, same_handle, handle_code, place_code}

-- a finite set of canonical handles, and a finite map from places to values
pub record Table : Type 0 where
  pub handles : set.FinSet handle_cmp
  pub values : map.FinMap place_cmp Value

abbrev pub no_rows : Table
no_rows = record { handles = set.empty; values = map.empty }

abbrev pub place : List ℕ → ℕ → Place
place h i = record { handle = h; index = i }

-- ---- what is read

abbrev pub has : Table → List ℕ → Bool
has t h = set.contains t.handles h

abbrev pub at : Table → Place → Option Value
at t p = map.get t.values p

-- the values of a handle, by rising index
abbrev pub values_of : Table → List ℕ → List Value
values_of t h = map.values (map.retain_keys t.values (λ p. same_handle p.handle h))

-- the values that were found, none if the handle is absent
abbrev pub values_in : Option (Vec Value Global) → List Value
values_in None = []
values_in (Some vs) = vs.items

-- the value of this index among values
abbrev pub value_with : ℕ → List Value → Option Value
value_with i vs = find (λ v. v.index == i) vs

-- among these values, the one of each index is that at this index of the handle, or neither exists
abbrev pub HaveTheirIndexes : Table → List ℕ → List Value → Type 0
HaveTheirIndexes t h vs = (i : ℕ) → value_with i vs ≡ at t (place h i)

abbrev pub key : List ℕ → List ℕ × Unit {0}
key h = (h, tt)

-- the members of a set, rising by octets: the keys of the map that has just these
abbrev pub in_order : set.FinSet handle_cmp → List (List ℕ)
in_order s = map.keys (map.from_entries {R = handle_cmp} (map key (set.items s)))

-- the handles of an authority, rising by octets
abbrev pub names_of : Table → List ℕ → List (List ℕ)
names_of t a = in_order (set.retain t.handles (λ h. same_handle (authority h) a))

-- each value is at a handle of the set
abbrev pub IsPlaced : Table → Type 0
IsPlaced t = (p : Place) (v : Value) → at t p ≡ Some v → has t p.handle ≡ true

-- ---- what is written

-- the values at their indexes of the handle, each replacing the one at its index
abbrev pub put_values : map.FinMap place_cmp Value → List ℕ → List Value → map.FinMap place_cmp Value
put_values m h [] = m
put_values m h (v ∷ vs) = put_values (map.insert m (place h v.index) v) h vs

abbrev pub remove_values : map.FinMap place_cmp Value → List ℕ → List ℕ → map.FinMap place_cmp Value
remove_values m h [] = m
remove_values m h (i ∷ is) = remove_values (map.remove m (place h i)) h is

abbrev pub with_new_handle : Table → List ℕ → List Value → Table
with_new_handle t h vs = record { handles = set.insert t.handles h; values = put_values t.values h vs }

-- added, or replaced as a whole
abbrev pub with_values : Table → List ℕ → List Value → Table
with_values t h vs = record t { values = put_values t.values h vs }

abbrev pub without_values : Table → List ℕ → List ℕ → Table
without_values t h is = record t { values = remove_values t.values h is }

abbrev pub without_handle : Table → List ℕ → Table
without_handle t h = record { handles = set.remove t.handles h; values = map.retain_keys t.values (λ p. not (same_handle p.handle h)) }

-- ---- the conditions of a write

-- no two of them are the same
abbrev pub AreDistinct : List ℕ → Type 0
AreDistinct [] = Unit {0}
AreDistinct (i ∷ is) = AllByRecursion (λ j. i ≢ j) is × AreDistinct is

abbrev pub indexes : List Value → List ℕ
indexes = map (λ v. v.index)

abbrev pub AreAbsent : Table → List ℕ → List ℕ → Type 0
AreAbsent t h = AllByRecursion (λ i. at t (place h i) ≡ None)

abbrev pub ArePresent : Table → List ℕ → List ℕ → Type 0
ArePresent t h = AllByRecursion (λ i. at t (place h i) ≢ None)

-- ---- refusals

-- the greatest count
abbrev pub most : ℕ
most = 2 ^ 64 - 1

-- a call that is refused raises the count by one, up to the greatest
abbrev pub refusals_after : {X E : Type 0} → Result X E → ℕ → ℕ
refusals_after (Ok x) n = n
refusals_after (Err e) n = min (n + 1) most

-- The count after several looks: as it was if all answered; else one look was refused, or memory for the answer was, which no table counts.
abbrev pub AreRefusalsAfter : {X E : Type 0} → Result X E → ℕ → ℕ → Type 0
AreRefusalsAfter result old new = OnOk result (new ≡ old) × OnErr result ((new ≡ old) ⊎ (new ≡ min (old + 1) most))

-- ---- what a contract sees of an implementation: what it holds, how many calls were refused, and what was read

pub record Held : Type 0 where
  pub table : Table
  pub refused : ℕ
  pub reads : ℕ

abbrev pub table_code : Coded Table
table_code =
    code_by (set.FinSet handle_cmp × map.FinMap place_cmp Value) (coded× (set.code handle_code) (map.code place_code the_row.coded))
    (λ t. (t.handles, t.values)) (λ p. record { handles = p.0; values = p.1 }) (λ _. refl)

abbrev pub held_code : Coded Held
held_code = code_by (Table × (ℕ × ℕ)) (coded× table_code (coded× coded_ℕ coded_ℕ)) (λ h. (h.table, (h.refused, h.reads))) (λ p. record { table = p.0; refused = p.1.0; reads = p.1.1 }) (λ _. refl)
