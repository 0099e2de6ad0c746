-- What a value in JSON means, or the first thing that is wrong with it.
use Rattle.std.specs.Prelude.{ℕ, nat_lt, ◌==◌, ◌&&◌, not, is_some, if◌then◌else◌, List, [], ◌∷◌, length, codes, Option, Some, None, Result, Ok, Err, ok_or}
use Rattle.std.specs.Int.{w32, to_be_bytes}
use Rattle.serde_json.specs.Data.{Data}
use Rattle.serde_json.specs.Find.{get}
use Rattle.hdl_limits.specs.declared.TheConstants.{TYPE_MAX, DATA_MAX}
use Rattle.hdl_value.specs.declared.value.Value.{Value}
use Rattle.hdl_value.specs.declared.fault.ValueFault.{ValueFault}
use Rattle.hdl_value.specs.declared.fault.ValueFault.TheVariants as value_fault
use Rattle.hdl_value.specs.Refs.{is_admin, is_list, admin_read, list_read}
use Rattle.hdl_rest.specs.declared.fault.EntryFault.{EntryFault}
use Rattle.hdl_rest.specs.declared.fault.EntryFault.TheVariants as fault
use Rattle.hdl_rest.specs.Data.{◌>>>◌, data_in}
use Rattle.hdl_rest.specs.Fields.{number_of, text_of, ttl_in_json, permissions_in_json}

-- the first fault of a value without references; `first_faults` says that it is `hdl_value`'s
unfoldable pub first_fault : Value → Option ValueFault
first_fault v =
    if v.index == 0 then Some value_fault.IndexZero
    else if nat_lt TYPE_MAX (length v.kind) then Some value_fault.TypeLong
    else if nat_lt DATA_MAX (length v.bytes) then Some value_fault.DataLong
    else if is_admin v && not (is_some (admin_read v)) then Some value_fault.BadAdmin
    else if is_list v && not (is_some (list_read v)) then Some value_fault.BadList
    else None

abbrev pub sound : Value → Option ValueFault → Result Value EntryFault
sound v None = Ok v
sound v (Some f) = Err (fault.Value f)

-- the data, which has to be there
abbrev pub data_in_json : Option Data → Result (List ℕ) EntryFault
data_in_json None = Err fault.Data
data_in_json (Some d) = data_in d

-- the value that the members say, sound or not: its timestamp is none, and it has no references
unfoldable pub fields_in_json : Data → Result Value EntryFault
fields_in_json d =
    ok_or (number_of (codes "index") d) fault.Index >>> λ index.
    (ok_or (text_of (codes "type") d) fault.Type >>> λ kind.
    (data_in_json (get (codes "data") d) >>> λ bytes.
    (ok_or (ttl_in_json (get (codes "ttl") d)) fault.Ttl >>> λ ttl.
    (ok_or (permissions_in_json kind (get (codes "permissions") d)) fault.Permissions >>> λ permissions.
    Ok (record { index = index; kind = kind; bytes = bytes; ttl = 0 ∷ to_be_bytes w32 ttl; permissions = permissions; timestamp = 0; references = [] })))))

-- the value that is meant
unfoldable pub value_in_json : Data → Result Value EntryFault
value_in_json d = fields_in_json d >>> λ v. sound v (first_fault v)
