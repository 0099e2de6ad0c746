-- HS_ADMIN data as old tools of the Handle.Net software write it: two octets of 0 follow.
use Rattle.std.specs.Prelude.{ℕ, ◌-◌, ◌==◌, ◌&&◌, List, [], ◌∷◌, length, take, is_some, if◌then◌else◌}
use Rattle.std.specs.List.{ends_with}
use Rattle.hdl_value.specs.declared.value.Value.{Value}
use Rattle.hdl_value.specs.declared.wire.Wire.{Wire}
use Rattle.hdl_value.specs.declared.wire.Wire.TheVariants.{Profile, HandleNet}
use Rattle.hdl_value.specs.Refs.{is_admin, admin_in}

-- good HS_ADMIN data without the two octets of 0 after it; other octets as they are
unfoldable pub without_padding : List ℕ → List ℕ
without_padding bytes =
    if ends_with ◌==◌ bytes (0 ∷ 0 ∷ []) && is_some (admin_in (take (length bytes - 2) bytes)) then take (length bytes - 2) bytes else bytes

-- the data to store, for a value that was sent in this layout
abbrev pub stored_data : Wire → Value → List ℕ
stored_data Profile v = v.bytes
stored_data HandleNet v = if is_admin v then without_padding v.bytes else v.bytes

-- the value to store, for a value that was sent in this layout
abbrev pub stored_by : Wire → Value → Value
stored_by wire v = record v { bytes = stored_data wire v }
