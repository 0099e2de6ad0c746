-- The JSON of a value is read as it.
use Rattle.std.proofs.Common.{◌≡◌, ℕ, ◌<◌, ◌^◌, ◌/◌, ◌%◌, ◌+◌, ◌==◌, Bool, true, false, cond, eqb, ltb, List, [], ◌∷◌, ◌++◌, length, get_or, drop, map, Option, Some, None, refl, sym, ap, subst, ◌∙◌, arith, rules, Ok}
use Rattle.std.specs.Prelude.{codes, ok_or, unwrap_or, option_map, IfSome, ◌&&◌, nat_le}
use Rattle.std.specs.Result.{result_ok}
use Rattle.std.specs.List.{AllByRecursion, list_any}
use Rattle.std.specs.Int.{w16, w32, to_be_bytes, from_be_bytes}
use Rattle.std.specs.Str.{is_utf8}
use Rattle.std.proofs.lemmas.Bool.{eqb-true, lt-ltb, cond-true, cond_both}
use Rattle.std.proofs.lemmas.Str.{is_utf8-from_IsUtf8}
use Rattle.hex.specs.Hex.{encode_lower}
use Rattle.base64.specs.Engines.{standard}
use Rattle.base64.specs.GeneralPurpose.{encode_of}
use Rattle.base64.proofs.EngineFacts.{decode_of-encode_of}
use Rattle.serde_json.specs.Data.{Data, null, number, unsigned, string, array, object, Members, no_members, put}
use Rattle.serde_json.specs.Find.{get, get_member, as_str}
use Rattle.serde_json.specs.View.{items_of}
use Rattle.serde_json.proofs.Views.{get_member-put, get_member-put_other}
use Rattle.hdl_limits.specs.Octets.{AreOctets}
use Rattle.hdl_name.specs.Name.{IsHandle}
use Rattle.hdl_name.specs.Tests.{is_handle}
use Rattle.hdl_name.proofs.Equal.{handle_decides}
use Rattle.hdl_value.specs.declared.references.RawRef.{RawRef}
use Rattle.hdl_value.specs.declared.value.Value.{Value}
use Rattle.hdl_value.specs.Spelling.{reference, references, RefFits, Fits}
use Rattle.hdl_value.specs.Reading.{◌>>=◌}
use Rattle.hdl_value.specs.Data.{IsAdminData, IsListData}
use Rattle.hdl_value.specs.Refs.{is_admin, is_list, admin_in, list_in, admin_read, list_read}
use Rattle.hdl_value.specs.Permission.{bits}
use Rattle.hdl_value.proofs.DataRead.{admin_in_is, list_in_is}
use Rattle.hdl_value_lines.specs.Fields.{permissions_in}
use Rattle.hdl_value_lines.specs.Lines.{without_stamp}
use Rattle.hdl_value_lines.proofs.Readings.{either, mask_again, permissions_again}
use Rattle.hdl_value_lines.proofs.RoundTrip.{if_some, ttl_again, ttl_number}
use Rattle.hdl_proxy.specs.declared.words.CacheLifetime.TheVariants.{Seconds}
use Rattle.hdl_proxy.specs.Json.{put_text, with_format, reference_members, reference_json, admin_json, list_json, is_text, base64_json, text_json, octets_json, data_json, put_written, written_json, put_permissions, value_json}
use Rattle.hdl_proxy.specs.Words.{text_of, value_digits, usual_permissions, ttl_seconds}
use Rattle.hdl_rest.specs.declared.data.Format.TheVariants as format
use Rattle.hdl_rest.specs.declared.fault.EntryFault.TheVariants as fault
use Rattle.hdl_rest.specs.Data.{◌>>>◌, format_named, reference_in, admin_parts, references_from, each, spelt_list, data_by, data_fault, formatted_in, data_in}
use Rattle.hdl_rest.specs.Entry.{first_fault, sound, data_in_json, fields_in_json, value_in_json}
use Rattle.hdl_rest.specs.Fields.{number_in_json, number_of, text_of as text_in, ttl_in_json, permissions_in_json}
use Rattle.hdl_rest.specs.Laws.{CanBeTold}
use Rattle.hdl_rest.proofs.Items.{each_items_of}

-- ---- numbers

number_again : (n : ℕ) → n < 2 ^ 32 → number_in_json (number (unsigned n)) ≡ Some n
number_again n lt = rw (lt-ltb n (2 ^ 32) lt) refl

digits_same : (n : ℕ) → n < 2 ^ 4 → permissions_in (value_digits n) ≡ Some n
digits_same n lt =
    let quarter : n / 4 ≡ n / 2 / 2 = omega arith in
    let eighth : n / 8 ≡ n / 2 / 2 / 2 = omega arith in
    rw (eighth, quarter) (permissions_again n lt)

-- ---- data

formatted_again : (name : List ℕ) (d : Data) → data_in (with_format name d) ≡ (ok_or (format_named name) fault.Format >>> λ f. ok_or (data_by f d) (data_fault f))
unfolding data_in formatted_in with_format
formatted_again name d = refl

handle_text : (handle : List ℕ) → IsHandle handle → is_utf8 handle ≡ true
handle_text handle h = is_utf8-from_IsUtf8 handle h.2.utf8

reference_again : (r : RawRef) → RefFits r → IsHandle r.handle → reference_in (reference_json r) ≡ Some r
unfolding reference_in reference_members
reference_again r fits name =
    let good : is_handle r.handle ≡ true = (handle_decides r.handle).1 name in
    rw (handle_text r.handle name) (rw (lt-ltb r.index (2 ^ 32) fits.index) (rw good refl))

admin_again : (mask : ℕ) (r : RawRef) (bytes : List ℕ) → IsAdminData bytes mask r → mask < 2 ^ 12 → data_in (admin_json (mask, r)) ≡ Ok bytes
unfolding admin_parts reference_in reference_members
admin_again mask r bytes good small =
    let name : is_handle r.handle ≡ true = (handle_decides r.handle).1 good.handle in
    formatted_again (codes "admin") (object (put (codes "permissions") (string (bits 12 mask)) (reference_members r)))
    ∙ rw (handle_text r.handle good.handle) (rw (lt-ltb r.index (2 ^ 32) good.ref_fits.index) (rw name (rw (mask_again mask small) (ap Ok (sym good.layout)))))

references_again : (rs : List RawRef) → AllByRecursion RefFits rs → AllByRecursion (λ r. IsHandle r.handle) rs → references_from (map reference_json rs) ≡ Some rs
references_again [] fits names = refl
references_again (r ∷ rs) fits names = rw (reference_again r fits.0 names.0, references_again rs fits.1 names.1) refl

list_again : (rs : List RawRef) (bytes : List ℕ) → IsListData bytes rs → data_in (list_json rs) ≡ Ok bytes
list_again rs bytes good =
    formatted_again (codes "vlist") (array (items_of (map reference_json rs)))
    ∙ rw (each_items_of (map reference_json rs)) (rw (references_again rs good.fits.each good.handles) (rw (lt-ltb (length rs) (2 ^ 32) good.fits.count) (ap Ok (sym good.layout))))

base64_again : (octets : List ℕ) → AreOctets octets → data_in (with_format (codes "base64") (string (encode_of standard octets))) ≡ Ok octets
base64_again octets fits =
    formatted_again (codes "base64") (string (encode_of standard octets))
    ∙ rw (decode_of-encode_of standard octets (search rules) fits) refl

text_again : (octets : List ℕ) → AreOctets octets → data_in (text_json octets) ≡ Ok octets
unfolding text_json
text_again octets fits =
    cond_both (is_utf8 octets) (with_format (codes "string") (string octets)) (base64_json octets) (λ d. data_in d ≡ Ok octets)
    (λ _. formatted_again (codes "string") (string octets)) (λ _. base64_again octets fits)

octets_again : (kind octets : List ℕ) → AreOctets octets → data_in (octets_json kind octets) ≡ Ok octets
octets_again kind octets fits =
    cond_both (is_text kind) (text_json octets) (base64_json octets) (λ d. data_in d ≡ Ok octets) (λ _. text_again octets fits) (λ _. base64_again octets fits)

list_data_again : (v : Value) → Fits v → (o : Option (List RawRef)) → list_read v ≡ o → data_in (unwrap_or (option_map list_json o) (octets_json v.kind v.bytes)) ≡ Ok v.bytes
list_data_again v fits None e = octets_again v.kind v.bytes fits.bytes.each
list_data_again v fits (Some rs) e = list_again rs v.bytes (list_in_is v.bytes rs fits.bytes.each (if_some (is_list v) (list_in v.bytes) rs e))

admin_data_again : (v : Value) → Fits v → (o : Option (ℕ × RawRef)) → admin_read v ≡ o → IfSome o (λ x. x.0 < 2 ^ 12)
    → data_in (unwrap_or (option_map admin_json o) (unwrap_or (option_map list_json (list_read v)) (octets_json v.kind v.bytes))) ≡ Ok v.bytes
admin_data_again v fits None e small = list_data_again v fits (list_read v) refl
admin_data_again v fits (Some x) e small = admin_again x.0 x.1 v.bytes (admin_in_is v.bytes x.0 x.1 fits.bytes.each (if_some (is_admin v) (admin_in v.bytes) x e)) small

data_again : (v : Value) → CanBeTold v → data_in (data_json v) ≡ Ok v.bytes
unfolding data_json
data_again v h = admin_data_again v h.fits (admin_read v) refl h.mask

-- ---- members

abbrev named : Value → Members
named v = put_text (codes "type") v.kind (put (codes "index") (number (unsigned v.index)) no_members)

abbrev lasting : Value → Members
lasting v = put (codes "ttl") (number (unsigned (ttl_seconds v))) (put (codes "data") (data_json v) (named v))

abbrev timed : Value → Option (List ℕ) → Members
timed v written = put_written v.timestamp written (lasting v)

past_written : (q : List ℕ) (v : Value) (written : Option (List ℕ)) → (q ≡ codes "timestamp" → ⊥) → get_member q (timed v written) ≡ get_member q (lasting v)
past_written q v written other =
    let told = put (codes "timestamp") (written_json written) (lasting v) in
    cond_both (v.timestamp == 0) (lasting v) told (λ m. get_member q m ≡ get_member q (lasting v))
    (λ _. refl) (λ _. get_member-put_other q (codes "timestamp") (written_json written) (lasting v) other)

past : (q : List ℕ) (v : Value) (ms : Members) → (q ≡ codes "permissions" → ⊥) → get_member q (put_permissions v ms) ≡ get_member q ms
past q v ms other =
    let digits = string (value_digits v.permissions) in
    cond_both (v.permissions == usual_permissions v.kind) ms (put (codes "permissions") digits ms) (λ m. get_member q m ≡ get_member q ms)
    (λ _. refl) (λ _. get_member-put_other q (codes "permissions") digits ms other)

permissions_kept : (v : Value) (written : Option (List ℕ)) → v.permissions < 2 ^ 4
    → permissions_in_json v.kind (get_member (codes "permissions") (put_permissions v (timed v written))) ≡ Some v.permissions
permissions_kept v written small =
    let digits = string (value_digits v.permissions) in
    cond_both (v.permissions == usual_permissions v.kind) (timed v written) (put (codes "permissions") digits (timed v written)) (λ m. permissions_in_json v.kind (get_member (codes "permissions") m) ≡ Some v.permissions)
    (λ e. ap (permissions_in_json v.kind) (past_written (codes "permissions") v written (λ q. absurd cc)) ∙ ap Some (sym (eqb-true v.permissions (usual_permissions v.kind) e)))
    (λ _. ap (permissions_in_json v.kind) (get_member-put (codes "permissions") digits (timed v written)) ∙ digits_same v.permissions small)

index_kept : (v : Value) (written : Option (List ℕ)) → get_member (codes "index") (put_permissions v (timed v written)) ≡ Some (number (unsigned v.index))
index_kept v written = past (codes "index") v (timed v written) (λ e. absurd cc) ∙ past_written (codes "index") v written (λ e. absurd cc)

type_kept : (v : Value) (written : Option (List ℕ)) → get_member (codes "type") (put_permissions v (timed v written)) ≡ Some (string (text_of v.kind))
type_kept v written = past (codes "type") v (timed v written) (λ e. absurd cc) ∙ past_written (codes "type") v written (λ e. absurd cc)

data_kept : (v : Value) (written : Option (List ℕ)) → get_member (codes "data") (put_permissions v (timed v written)) ≡ Some (data_json v)
data_kept v written = past (codes "data") v (timed v written) (λ e. absurd cc) ∙ past_written (codes "data") v written (λ e. absurd cc)

ttl_kept : (v : Value) (written : Option (List ℕ)) → get_member (codes "ttl") (put_permissions v (timed v written)) ≡ Some (number (unsigned (ttl_seconds v)))
ttl_kept v written = past (codes "ttl") v (timed v written) (λ e. absurd cc) ∙ past_written (codes "ttl") v written (λ e. absurd cc)

-- ---- the value

value_made : (v : Value) → CanBeTold v → record { index = v.index; kind = v.kind; bytes = v.bytes; ttl = 0 ∷ to_be_bytes w32 (ttl_seconds v); permissions = v.permissions; timestamp = 0; references = [] } ≡ without_stamp v
value_made v h =
    let ttl = ttl_again v.ttl h.fits.ttl h.fits.ttl_octets h.how in
    let refs = sym h.references in
    λ i. record { index = v.index; kind = v.kind; bytes = v.bytes; ttl = ttl i; permissions = v.permissions; timestamp = 0; references = refs i }

-- what five members say
fields_from : (d : Data) (index ttl permissions : ℕ) (kind bytes : List ℕ) → number_of (codes "index") d ≡ Some index → text_in (codes "type") d ≡ Some kind
    → data_in_json (get (codes "data") d) ≡ Ok bytes → ttl_in_json (get (codes "ttl") d) ≡ Some ttl → permissions_in_json kind (get (codes "permissions") d) ≡ Some permissions
    → fields_in_json d ≡ Ok (record { index = index; kind = kind; bytes = bytes; ttl = 0 ∷ to_be_bytes w32 ttl; permissions = permissions; timestamp = 0; references = [] })
unfolding fields_in_json
fields_from d index ttl permissions kind bytes i k b t p = rw i (rw k (rw b (rw t (rw p refl))))

kind_text : (v : Value) → CanBeTold v → as_str (string (text_of v.kind)) ≡ Some v.kind
kind_text v h = ap Some (cond-true (is_utf8 v.kind) v.kind (encode_lower v.kind) h.kind)

fields_again : (v : Value) (written : Option (List ℕ)) → CanBeTold v → fields_in_json (value_json v (Seconds (ttl_seconds v)) written) ≡ Ok (without_stamp v)
unfolding value_json
fields_again v written h =
    let d = object (put_permissions v (timed v written)) in
    fields_from d v.index (ttl_seconds v) v.permissions v.kind v.bytes
    (ap (λ (o : Option Data). o >>= number_in_json) (index_kept v written) ∙ number_again v.index h.fits.index)
    (ap (λ (o : Option Data). o >>= as_str) (type_kept v written) ∙ kind_text v h)
    (ap data_in_json (data_kept v written) ∙ data_again v h)
    (ap ttl_in_json (ttl_kept v written) ∙ number_again (ttl_seconds v) (ttl_number v h.fits))
    (permissions_kept v written h.permissions)
    ∙ ap Ok (value_made v h)

unstamped_sound : (v : Value) → first_fault v ≡ None → first_fault (without_stamp v) ≡ None
unfolding first_fault
unstamped_sound v h = h

pub written_is_read_lem : (v : Value) (written : Option (List ℕ)) → CanBeTold v → value_in_json (value_json v (Seconds (ttl_seconds v)) written) ≡ Ok (without_stamp v)
unfolding value_in_json
written_is_read_lem v written h = rw (fields_again v written h) (rw (unstamped_sound v h.sound) refl)
