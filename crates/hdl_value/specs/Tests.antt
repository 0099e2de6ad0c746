-- Soundness as a test that computes. `soundness_decided` states that it agrees with `IsSound`.
use Rattle.std.specs.Prelude.{Bool, true, length, nat_lt, nat_le, ◌&&◌, if◌then◌else◌, is_some}
use Rattle.hdl_value.specs.declared.value.Value.{Value}
use Rattle.hdl_limits.specs.declared.TheConstants.{TYPE_MAX, DATA_MAX, REFERENCES_MAX}
use Rattle.hdl_value.specs.Refs.{is_admin, is_list, admin_in, list_in}

-- index 0 names no value, and nothing is longer than its limit
abbrev pub is_in_limits : Value → Bool
is_in_limits v = nat_lt 0 v.index && nat_le (length v.kind) TYPE_MAX && nat_le (length v.bytes) DATA_MAX && nat_le (length v.references) REFERENCES_MAX

-- data that has a meaning has its layout
abbrev pub has_good_data : Value → Bool
has_good_data v = (if is_admin v then is_some (admin_in v.bytes) else true) && (if is_list v then is_some (list_in v.bytes) else true)

-- both
abbrev pub is_sound : Value → Bool
is_sound v = is_in_limits v && has_good_data v
