-- Laws over records in JSON.
use Rattle.std.specs.Prelude.{◌≡◌, false, All, ◌++◌, ℕ, ◌<◌, ◌^◌, true, List, [], slice_index, Option, None, Ok, IfSome}
use Rattle.std.specs.List.Sorted.{IsPermutation}
use Rattle.std.specs.Str.{is_utf8}
use Rattle.hdl_value.specs.declared.value.Value.{Value}
use Rattle.hdl_value.specs.Spelling.{Fits}
use Rattle.hdl_value.specs.Refs.{admin_read}
use Rattle.hdl_value_lines.specs.Lines.{without_stamp}
use Rattle.hdl_proxy.specs.declared.words.CacheLifetime.TheVariants.{Seconds}
use Rattle.hdl_proxy.specs.Json.{value_json}
use Rattle.hdl_proxy.specs.Words.{ttl_seconds}
use Rattle.hdl_rest.specs.Entry.{first_fault, value_in_json}
use Rattle.hdl_rest.specs.Plan.{is_among, known_values, fresh, missing_indexes}
use Rattle.hdl_rest.specs.Record.{has_index}

-- JSON can say all of a sound value: its type is text, its TTL a number of seconds, no upper bit of its permissions or of an administrator's is set, and it has no references
pub record CanBeTold (v : Value) : Type 0 where
  pub fits : Fits v
  pub sound : first_fault v ≡ None
  pub kind : is_utf8 v.kind ≡ true
  pub how : slice_index v.ttl 0 ≡ 0
  pub permissions : v.permissions < 2 ^ 4
  pub mask : IfSome (admin_read v) (λ x. x.0 < 2 ^ 12)
  pub references : v.references ≡ []

-- the JSON of such a value is read as it, but for its timestamp
abbrev pub WrittenIsRead : Type 0
WrittenIsRead =
    (v : Value) (written : Option (List ℕ)) → CanBeTold v → value_in_json (value_json v (Seconds (ttl_seconds v)) written) ≡ Ok (without_stamp v)

-- A change loses nothing: each given value is written once, what is there by a modification and what isn't by an addition, and what is
-- removed at the end was not given.
pub record LosesNothing (there : List ℕ) (vs : List Value) : Type 0 where
  pub written : IsPermutation vs (known_values there vs ++ fresh there vs)
  pub modified : All (λ v. is_among v.index there ≡ true) (known_values there vs)
  pub added : All (λ v. is_among v.index there ≡ false) (fresh there vs)
  pub removed : All (λ n. has_index n vs ≡ false) (missing_indexes there vs)

abbrev pub NothingIsLost : Type 0
NothingIsLost = (there : List ℕ) (vs : List Value) → LosesNothing there vs
