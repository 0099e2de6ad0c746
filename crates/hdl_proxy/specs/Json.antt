-- Values as JSON: the handle and what these values say, and nothing else.
use Rattle.std.specs.Prelude.{◌≡◌, ◌==◌, ℕ, Bool, not, ◌&&◌, List, map, codes, bytes_eq, if◌then◌else◌, Option, Some, None, option_map, unwrap_or, string_bytes}
use Rattle.std.specs.List.{AllZip}
use Rattle.std.specs.Str.{is_utf8}
use Rattle.base64.specs.Engines.{standard}
use Rattle.base64.specs.GeneralPurpose.{encode_of}
use Rattle.serde_json.specs.Data.{Data, null, number, unsigned, string, array, object, Members, no_members, put}
use Rattle.serde_json.specs.View.{items_of}
use Rattle.serde_json.specs.Written.{compact_text, IsInOrder}
use Rattle.hdl_value.specs.declared.references.RawRef.{RawRef}
use Rattle.hdl_value.specs.declared.value.Value.{Value}
use Rattle.hdl_value.specs.Data.{admin_kind, list_kind}
use Rattle.hdl_value.specs.Refs.{admin_read, list_read}
use Rattle.hdl_proxy.specs.declared.words.CacheLifetime.{CacheLifetime}
use Rattle.hdl_proxy.specs.declared.words.CacheLifetime.TheVariants.{Seconds, Until}
use Rattle.hdl_proxy.specs.Words.{text_of, permission_digits, value_digits, usual_permissions, IsCacheLifetime, IsWritten}

-- a member that is text
abbrev pub put_text : List ℕ → List ℕ → Members → Members
put_text key octets members = put key (string (text_of octets)) members

-- ---- the data of a value

-- data, and how it is told
unfoldable pub with_format : List ℕ → Data → Data
with_format format data' = object (put (codes "value") data' (put (codes "format") (string format) no_members))

unfoldable pub reference_members : RawRef → Members
reference_members r = put (codes "index") (number (unsigned r.index)) (put_text (codes "handle") r.handle no_members)

abbrev pub reference_json : RawRef → Data
reference_json r = object (reference_members r)

-- an administrator: its key and its permissions
abbrev pub admin_json : ℕ × RawRef → Data
admin_json x = with_format (codes "admin") (object (put (codes "permissions") (string (permission_digits x.0)) (reference_members x.1)))

-- a list of references
abbrev pub list_json : List RawRef → Data
list_json rs = with_format (codes "vlist") (array (items_of (map reference_json rs)))

-- data of a type is text, unless the type's octets have a layout (RFC 3651, section 3.2)
abbrev pub is_text : List ℕ → Bool
is_text kind =
    not (bytes_eq kind admin_kind) && (not (bytes_eq kind list_kind) && (not (bytes_eq kind (codes "HS_SITE")) && not (bytes_eq kind (codes "HS_PUBKEY"))))

abbrev pub base64_json : List ℕ → Data
base64_json octets = with_format (codes "base64") (string (encode_of standard octets))

-- octets that may be text: as they are where they are
unfoldable pub text_json : List ℕ → Data
text_json octets = if is_utf8 octets then with_format (codes "string") (string octets) else base64_json octets

-- octets of this type
abbrev pub octets_json : List ℕ → List ℕ → Data
octets_json kind octets = if is_text kind then text_json octets else base64_json octets

-- what the data is: an administrator, a list of references, or octets
unfoldable pub data_json : Value → Data
data_json v = unwrap_or (option_map admin_json (admin_read v)) (unwrap_or (option_map list_json (list_read v)) (octets_json v.kind v.bytes))

-- ---- a value

abbrev pub kept_json : CacheLifetime → Data
kept_json (Seconds n) = number (unsigned n)
kept_json (Until words) = string (string_bytes words)

abbrev pub written_json : Option (List ℕ) → Data
written_json None = null
written_json (Some words) = string words

-- when it was written; a timestamp of 0 says nothing
abbrev pub put_written : ℕ → Option (List ℕ) → Members → Members
put_written timestamp written members = if timestamp == 0 then members else put (codes "timestamp") (written_json written) members

-- the permissions, where they aren't the usual ones of the type
abbrev pub put_permissions : Value → Members → Members
put_permissions v members = if v.permissions == usual_permissions v.kind then members else put (codes "permissions") (string (value_digits v.permissions)) members

unfoldable pub value_json : Value → CacheLifetime → Option (List ℕ) → Data
value_json v kept written =
    object (put_permissions v (put_written v.timestamp written
    (put (codes "ttl") (kept_json kept)
    (put (codes "data") (data_json v)
    (put_text (codes "type") v.kind
    (put (codes "index") (number (unsigned v.index)) no_members))))))

abbrev pub IsValueJson : Value → Data → Type 0
IsValueJson v d = (kept : CacheLifetime) × (written : Option (List ℕ)) × IsCacheLifetime v kept × IsWritten v written × (d ≡ value_json v kept written)

-- ---- what is answered

-- the values of a handle
unfoldable pub answer_json : List ℕ → List Data → Data
answer_json handle ds =
    object (put (codes "values") (array (items_of ds))
    (put_text (codes "handle") handle
    (put (codes "responseCode") (number (unsigned 1)) no_members)))

-- the body is the JSON of these values of this handle
abbrev pub IsJsonOf : List ℕ → List Value → List ℕ → Type 0
IsJsonOf handle values body = (ds : List Data) × AllZip IsValueJson values ds × (body ≡ compact_text (answer_json handle ds))

-- the body has just the members, items and texts of this JSON, in their order, and its numbers in decimal
abbrev pub IsPrettyOf : List ℕ → List Value → List ℕ → Type 0
IsPrettyOf handle values body =
    (ds : List Data) × AllZip IsValueJson values ds × IsInOrder body (answer_json handle ds)

-- why there are no values
unfoldable pub refusal_json : List ℕ → ℕ → List ℕ → Data
refusal_json asked code why =
    object (put_text (codes "message") why
    (put_text (codes "handle") asked
    (put (codes "responseCode") (number (unsigned code)) no_members)))
