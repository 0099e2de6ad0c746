-- The keys of a range that weren't read yet.
use Rattle.std.specs.Prelude.{◌≡◌, ◌⊎◌, ℕ, List, [], ◌∷◌, ◌++◌, ◌-◌, if◌then◌else◌, length, slice_get, option_map, unwrap_or}
use Rattle.std.specs.Ordering.{nat_cmp}
use Rattle.std.specs.declared.cmp.Ordering.TheVariants.{Less}
use Rattle.std.specs.Cmp.Lexicographic.{slice_cmp}
use Rattle.hdl_etcd.specs.declared.answers.Pair.{Pair}
use Rattle.hdl_etcd.specs.declared.answers.RangeResponse.{RangeResponse}

-- the key stands before the other one
abbrev pub IsBefore : List ℕ → List ℕ → Type 0
IsBefore one other = slice_cmp nat_cmp one other ≡ Less

-- the end of a range that begins as this one: that of this one, or one that stands between
abbrev pub IsEndWithin : List ℕ → List ℕ → List ℕ → Type 0
IsEndWithin from to end = (end ≡ to) ⊎ (IsBefore from end × IsBefore end to)

-- the first key behind a page of a range with this end: behind the last pair, if more keys stand there
abbrev pub behind_page : RangeResponse → List ℕ → List ℕ
behind_page page end = if page.has_more then unwrap_or (option_map (λ (pair : Pair). pair.key ++ 0 ∷ []) (slice_get page.pairs (length page.pairs - 1))) end else end
