-- The key that comes with a request: HTTP's Basic (RFC 7617), with both parts percent-encoded once.
use Rattle.std.specs.Prelude.{◌≡◌, ◌⊎◌, ℕ, ◌==◌, if◌then◌else◌, List, [], length, map, take, drop, codes, Option, Some, None, Result, Ok, Err, ok_or}
use Rattle.std.specs.Result.{result_ok}
use Rattle.std.specs.Char.{to_ascii_lowercase}
use Rattle.std.specs.Str.{bytes_eq}
use Rattle.base64.specs.Engines.{standard}
use Rattle.base64.specs.GeneralPurpose.{decode_of as base64_of}
use Rattle.percent_encoding.specs.Percent.{percent_decode}
use Rattle.hdl_name.specs.Tests.{is_handle}
use Rattle.hdl_value.specs.declared.references.RawRef.{RawRef}
use Rattle.hdl_value.specs.Reading.{◌>>=◌}
use Rattle.hdl_value_lines.specs.Fields.{colon, cut_at, number_in}
use Rattle.hdl_client.specs.declared.challenge.Key.{Key}
use Rattle.hdl_rest.specs.declared.credentials.CredentialFault.{CredentialFault}
use Rattle.hdl_rest.specs.declared.credentials.CredentialFault.TheVariants as fault
use Rattle.hdl_rest.specs.Data.{◌>>>◌}

-- what stands behind the word Basic, in any case of letters, and a space
abbrev pub basic_in : List ℕ → Option (List ℕ)
basic_in field = if bytes_eq (map to_ascii_lowercase (take 6 field)) (codes "basic ") then Some (drop 6 field) else None

-- INDEX:HANDLE, of an index that isn't 0
unfoldable pub user_in : List ℕ → Option RawRef
user_in user = do
  x ← cut_at colon user
  index ← number_in x.0
  if index == 0 then None else if is_handle x.1 then Some (record { handle = x.1; index = index }) else None

abbrev pub some_of : List ℕ → Option (List ℕ)
some_of octets = if length octets == 0 then None else Some octets

-- the key of both parts, each with its escapes
unfoldable pub key_by : List ℕ → List ℕ → Result Key CredentialFault
key_by user secret =
    ok_or (user_in (percent_decode user)) fault.User >>> λ u.
    (ok_or (some_of (percent_decode secret)) fault.Secret >>> λ s.
    Ok (record { handle = u.handle; index = u.index; secret = s }))

-- the key of user, colon and secret
unfoldable pub key_in_text : List ℕ → Result Key CredentialFault
key_in_text text = ok_or (cut_at colon text) fault.Base64 >>> λ x. key_by x.0 x.1

abbrev pub decode : List ℕ → Option (List ℕ)
decode text = result_ok (base64_of standard text)

-- the key of such a field, or the first thing that is wrong with it
unfoldable pub key_in : Option (List ℕ) → Result Key CredentialFault
key_in field =
    ok_or field fault.Missing >>> λ octets.
    (ok_or (basic_in octets) fault.Scheme >>> λ text.
    (ok_or (decode text) fault.Base64 >>> λ told. key_in_text told))

-- why there is no key: there was no memory, or what is wrong
abbrev pub IsKeyFault : Result Key CredentialFault → CredentialFault → Type 0
IsKeyFault told e = (e ≡ fault.Memory) ⊎ (told ≡ Err e)
