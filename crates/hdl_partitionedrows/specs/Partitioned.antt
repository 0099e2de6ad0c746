-- A table in two partitions.
use Rattle.std.specs.Prelude.{ℕ, List, [], ◌∷◌, ◌++◌, Bool, true, false, not, cond, ◌==◌, bit_and}
use Rattle.std.specs.Ordering.{is_lt}
use Rattle.std.specs.FinMap as map
use Rattle.std.specs.FinSet as set
use Rattle.std.specs.Hash.DefaultHasher.{write, finish}
use Rattle.std.specs.RandomState.{initial_hasher}
use Rattle.hdl_value.specs.Place.{handle_cmp}
use Rattle.hdl_rows.specs.Table.{Table}
use Rattle.hdl_partitionedrows.specs.declared.fork.Fork.{Fork}

-- whether a handle is in the second partition
abbrev pub is_second : Fork → List ℕ → Bool
is_second f h = not (bit_and (finish (write (initial_hasher f.hasher) h)) f.bit == 0)

-- a table's handles that are in the partition
abbrev pub own : (List ℕ → Bool) → Bool → Table → set.FinSet handle_cmp
own is second t = set.retain t.handles (λ h. cond second (is h) (not (is h)))

-- of the first table what is in the first partition, and of the second what is in the second
abbrev pub joined : (List ℕ → Bool) → Table → Table → Table
joined is t u = record {
  handles = set.union (own is false t) (own is true u);
  values = map.from_entries (map.entries (map.retain_keys t.values (λ p. not (is p.handle))) ++ map.entries (map.retain_keys u.values (λ p. is p.handle)));
}

-- x ∷ xs merged with a list, where `rest` merges xs with one
abbrev pub merged_from : List ℕ → List (List ℕ) → (List (List ℕ) → List (List ℕ)) → List (List ℕ) → List (List ℕ)
merged_from x xs rest [] = x ∷ xs
merged_from x xs rest (y ∷ ys) = cond (is_lt (handle_cmp y x)) (y ∷ merged_from x xs rest ys) (x ∷ rest (y ∷ ys))

-- two lists of handles merged: of both heads the one that is before the other goes first
abbrev pub merged : List (List ℕ) → List (List ℕ) → List (List ℕ)
merged [] = λ ys. ys
merged (x ∷ xs) = merged_from x xs (merged xs)

-- whether the head that goes first is the second list's
abbrev pub takes_second : List (List ℕ) → List (List ℕ) → Bool
takes_second [] [] = false
takes_second [] (y ∷ ys) = true
takes_second (x ∷ xs) [] = false
takes_second (x ∷ xs) (y ∷ ys) = is_lt (handle_cmp y x)
