-- The data of a value in JSON, by its format.
use Rattle.std.specs.Prelude.{ℕ, ◌^◌, nat_lt, List, [], ◌∷◌, ◌++◌, length, codes, if◌then◌else◌, is_some, Option, Some, None, Result, Ok, Err, ok_or}
use Rattle.std.specs.Option.{option_map}
use Rattle.std.specs.Result.{result_ok}
use Rattle.std.specs.Int.{w16, to_be_bytes}
use Rattle.std.specs.Str.{bytes_eq}
use Rattle.base64.specs.Engines.{standard}
use Rattle.base64.specs.GeneralPurpose.{decode_of as base64_of}
use Rattle.serde_json.specs.Data.{Data, Items, no_items, item}
use Rattle.serde_json.specs.Find.{get, as_str, as_array}
use Rattle.hdl_name.specs.Tests.{is_handle}
use Rattle.hdl_value.specs.declared.references.RawRef.{RawRef}
use Rattle.hdl_value.specs.Reading.{◌>>=◌}
use Rattle.hdl_value.specs.Spelling.{reference, references}
use Rattle.hdl_value_lines.specs.Data.{hex_in}
use Rattle.hdl_value_lines.specs.Fields.{mask_in}
use Rattle.hdl_rest.specs.declared.data.Format.{Format}
use Rattle.hdl_rest.specs.declared.data.Format.TheVariants as format
use Rattle.hdl_rest.specs.declared.fault.EntryFault.{EntryFault}
use Rattle.hdl_rest.specs.declared.fault.EntryFault.TheVariants as fault
use Rattle.hdl_rest.specs.Fields.{number_of, text_of}

-- the format of a name
abbrev pub format_named : List ℕ → Option Format
format_named word =
    if bytes_eq word (codes "string") then Some format.Text
    else if bytes_eq word (codes "base64") then Some format.Base64
    else if bytes_eq word (codes "hex") then Some format.Hex
    else if bytes_eq word (codes "admin") then Some format.Admin
    else if bytes_eq word (codes "vlist") then Some format.List
    else if bytes_eq word (codes "key") then Some format.Key
    else None

-- the list of these
abbrev pub each : Items → List Data
each no_items = []
each (item d ds) = d ∷ each ds

-- a handle and an index
unfoldable pub reference_in : Data → Option RawRef
reference_in d = do
  handle ← text_of (codes "handle") d
  index ← number_of (codes "index") d
  if is_handle handle then Some (record { handle = handle; index = index }) else None

-- an administrator: such a reference, and twelve permissions
unfoldable pub admin_parts : Data → Option (ℕ × RawRef)
admin_parts d = do
  r ← reference_in d
  digits ← text_of (codes "permissions") d
  mask ← mask_in digits
  Some (mask, r)

abbrev pub admin_in : Data → Option (List ℕ)
admin_in d = option_map (λ x. to_be_bytes w16 x.0 ++ reference x.1) (admin_parts d)

-- a list of references
abbrev pub references_from : List Data → Option (List RawRef)
references_from [] = Some []
references_from (d ∷ ds) = do
  r ← reference_in d
  rs ← references_from ds
  Some (r ∷ rs)

abbrev pub spelt_list : List RawRef → Option (List ℕ)
spelt_list rs = if nat_lt (length rs) (2 ^ 32) then Some (references rs) else None

abbrev pub list_in : Data → Option (List ℕ)
list_in d = as_array d >>= λ ds. references_from (each ds) >>= spelt_list

abbrev pub base64_in : Data → Option (List ℕ)
base64_in d = as_str d >>= λ text. result_ok (base64_of standard text)

abbrev pub digits_in : Data → Option (List ℕ)
digits_in d = as_str d >>= hex_in

-- what each format says; a key is the text of a secret
abbrev pub data_by : Format → Data → Option (List ℕ)
data_by format.Text d = as_str d
data_by format.Base64 d = base64_in d
data_by format.Hex d = digits_in d
data_by format.Admin d = admin_in d
data_by format.List d = list_in d
data_by format.Key d = as_str d

-- the fault of data that isn't of its format
abbrev pub data_fault : Format → EntryFault
data_fault format.Text = fault.Text
data_fault format.Base64 = fault.Base64
data_fault format.Hex = fault.Hex
data_fault format.Admin = fault.Admin
data_fault format.List = fault.List
data_fault format.Key = fault.Text

-- what follows a step, or the fault of the step
infixl 10 ◌>>>◌
abbrev pub ◌>>>◌ : {A B F : Type 0} → Result A F → (A → Result B F) → Result B F
Ok x >>> f = f x
Err e >>> f = Err e

-- data with its format
unfoldable pub formatted_in : Data → Result (List ℕ) EntryFault
formatted_in d =
    ok_or (text_of (codes "format") d) fault.Data >>> λ name.
    (ok_or (get (codes "value") d) fault.Data >>> λ told.
    (ok_or (format_named name) fault.Format >>> λ f.
    ok_or (data_by f told) (data_fault f)))

-- text, or data with its format
unfoldable pub data_in : Data → Result (List ℕ) EntryFault
data_in d = if is_some (as_str d) then ok_or (as_str d) fault.Text else formatted_in d
