-- No number that is told is a float.
use Rattle.std.proofs.Common.{◌≡◌, ◌==◌, ℕ, List, [], ◌∷◌, false, map, Option, Some, None, Ordering, Less, Equal, Greater, nat_cmp, refl, ap, ◌∙◌}
use Rattle.std.specs.List.{AllZip}
use Rattle.std.specs.Ordering.{match_ordering}
use Rattle.std.specs.Cmp.Lexicographic.{slice_cmp}
use Rattle.std.specs.Str.{is_utf8}
use Rattle.std.specs.Prelude.{codes, option_map, unwrap_or}
use Rattle.base64.specs.Engines.{standard}
use Rattle.base64.specs.GeneralPurpose.{encode_of}
use Rattle.std.proofs.lemmas.Bool.{or_parts, or_from, cond_both}
use Rattle.serde_json.specs.Data.{Data, number, unsigned, string, array, object, Members, no_members, member, put}
use Rattle.serde_json.specs.View.{items_of}
use Rattle.serde_json.specs.Written.{has_float, items_have_float, members_have_float}
use Rattle.hdl_value.specs.declared.references.RawRef.{RawRef}
use Rattle.hdl_value.specs.declared.value.Value.{Value}
use Rattle.hdl_value.specs.Refs.{admin_read, list_read}
use Rattle.hdl_proxy.specs.declared.words.CacheLifetime.{CacheLifetime}
use Rattle.hdl_proxy.specs.declared.words.CacheLifetime.TheVariants.{Seconds, Until}
use Rattle.hdl_proxy.specs.Words.{text_of, permission_digits, value_digits, usual_permissions}
use Rattle.hdl_proxy.specs.Json.{put_text, with_format, reference_members, reference_json, admin_json, list_json, is_text, base64_json, text_json, octets_json, data_json, kept_json, put_written, written_json, put_permissions, value_json, answer_json, refusal_json, IsValueJson}

by_ordering : (o : Ordering) (a b c : Members) → members_have_float a ≡ false → members_have_float b ≡ false → members_have_float c ≡ false → members_have_float (match_ordering o a b c) ≡ false
by_ordering Less a b c ha hb hc = ha
by_ordering Equal a b c ha hb hc = hb
by_ordering Greater a b c ha hb hc = hc

pub put_none : (k : List ℕ) (d : Data) (ms : Members) → has_float d ≡ false → members_have_float ms ≡ false → members_have_float (put k d ms) ≡ false
put_none k d no_members hd hms = or_from (has_float d) false hd refl
put_none k d (member l e ms) hd hms =
    let parts = or_parts (has_float e) (members_have_float ms) hms in
    by_ordering (slice_cmp nat_cmp k l) _ _ _
    (or_from (has_float d) _ hd hms)
    (or_from (has_float d) _ hd parts.1)
    (or_from (has_float e) _ parts.0 (put_none k d ms hd parts.1))

formatted_none : (format : List ℕ) (d : Data) → has_float d ≡ false → has_float (with_format format d) ≡ false
unfolding with_format
formatted_none format d h =
    put_none (codes "value") d (put (codes "format") (string format) no_members) h
    (put_none (codes "format") (string format) no_members refl refl)

reference_none : (r : RawRef) → members_have_float (reference_members r) ≡ false
unfolding reference_members
reference_none r =
    put_none (codes "index") (number (unsigned r.index)) (put_text (codes "handle") r.handle no_members) refl
    (put_none (codes "handle") (string (text_of r.handle)) no_members refl refl)

admin_none : (x : ℕ × RawRef) → has_float (admin_json x) ≡ false
admin_none x =
    let digits = string (permission_digits x.0) in
    formatted_none (codes "admin") (object (put (codes "permissions") digits (reference_members x.1)))
    (put_none (codes "permissions") digits (reference_members x.1) refl (reference_none x.1))

references_none : (rs : List RawRef) → items_have_float (items_of (map reference_json rs)) ≡ false
references_none [] = refl
references_none (r ∷ rs) =
    or_from (members_have_float (reference_members r)) (items_have_float (items_of (map reference_json rs))) (reference_none r) (references_none rs)

list_none : (rs : List RawRef) → has_float (list_json rs) ≡ false
list_none rs = formatted_none (codes "vlist") (array (items_of (map reference_json rs))) (references_none rs)

base64_none : (octets : List ℕ) → has_float (base64_json octets) ≡ false
base64_none octets = formatted_none (codes "base64") (string (encode_of standard octets)) refl

text_none : (octets : List ℕ) → has_float (text_json octets) ≡ false
unfolding text_json
text_none octets =
    cond_both (is_utf8 octets) (with_format (codes "string") (string octets)) (base64_json octets) (λ d. has_float d ≡ false)
    (λ _. formatted_none (codes "string") (string octets) refl) (λ _. base64_none octets)

octets_none : (kind octets : List ℕ) → has_float (octets_json kind octets) ≡ false
octets_none kind octets = cond_both (is_text kind) (text_json octets) (base64_json octets) (λ d. has_float d ≡ false) (λ _. text_none octets) (λ _. base64_none octets)

data_none_of : (a : Option (ℕ × RawRef)) (l : Option (List RawRef)) (d : Data) → has_float d ≡ false → has_float (unwrap_or (option_map admin_json a) (unwrap_or (option_map list_json l) d)) ≡ false
data_none_of (Some x) l d h = admin_none x
data_none_of None (Some rs) d h = list_none rs
data_none_of None None d h = h

data_none : (v : Value) → has_float (data_json v) ≡ false
unfolding data_json
data_none v = data_none_of (admin_read v) (list_read v) (octets_json v.kind v.bytes) (octets_none v.kind v.bytes)

kept_none : (kept : CacheLifetime) → has_float (kept_json kept) ≡ false
kept_none (Seconds n) = refl
kept_none (Until words) = refl

written_none : (written : Option (List ℕ)) → has_float (written_json written) ≡ false
written_none None = refl
written_none (Some words) = refl

written_put_none : (timestamp : ℕ) (written : Option (List ℕ)) (ms : Members) → members_have_float ms ≡ false → members_have_float (put_written timestamp written ms) ≡ false
written_put_none timestamp written ms h =
    cond_both (timestamp == 0) ms (put (codes "timestamp") (written_json written) ms) (λ m. members_have_float m ≡ false)
    (λ _. h) (λ _. put_none (codes "timestamp") (written_json written) ms (written_none written) h)

permissions_none : (v : Value) (ms : Members) → members_have_float ms ≡ false → members_have_float (put_permissions v ms) ≡ false
permissions_none v ms h =
    let digits = string (value_digits v.permissions) in
    cond_both (v.permissions == usual_permissions v.kind) ms (put (codes "permissions") digits ms) (λ m. members_have_float m ≡ false)
    (λ _. h) (λ _. put_none (codes "permissions") digits ms refl h)

value_none : (v : Value) (kept : CacheLifetime) (written : Option (List ℕ)) → has_float (value_json v kept written) ≡ false
unfolding value_json
value_none v kept written =
    let index = put (codes "index") (number (unsigned v.index)) no_members in
    let kind = put_text (codes "type") v.kind index in
    let told = put (codes "data") (data_json v) kind in
    let ttl = put (codes "ttl") (kept_json kept) told in
    permissions_none v (put_written v.timestamp written ttl)
    (written_put_none v.timestamp written ttl
    (put_none (codes "ttl") (kept_json kept) told (kept_none kept)
    (put_none (codes "data") (data_json v) kind (data_none v)
    (put_none (codes "type") (string (text_of v.kind)) index refl
    (put_none (codes "index") (number (unsigned v.index)) no_members refl refl)))))

values_none : (values : List Value) (ds : List Data) → AllZip IsValueJson values ds → items_have_float (items_of ds) ≡ false
values_none [] [] h = refl
values_none [] (d ∷ ds) h = absurd h
values_none (v ∷ values) [] h = refl
values_none (v ∷ values) (d ∷ ds) h =
    or_from (has_float d) (items_have_float (items_of ds)) (ap has_float h.0.4 ∙ value_none v h.0.0 h.0.1) (values_none values ds h.1)

pub answer_none : (handle : List ℕ) (values : List Value) (ds : List Data) → AllZip IsValueJson values ds → has_float (answer_json handle ds) ≡ false
unfolding answer_json
answer_none handle values ds h =
    let code = put (codes "responseCode") (number (unsigned 1)) no_members in
    let named = put_text (codes "handle") handle code in
    put_none (codes "values") (array (items_of ds)) named (values_none values ds h)
    (put_none (codes "handle") (string (text_of handle)) code refl
    (put_none (codes "responseCode") (number (unsigned 1)) no_members refl refl))

pub refusal_none : (asked : List ℕ) (code : ℕ) (why : List ℕ) → has_float (refusal_json asked code why) ≡ false
unfolding refusal_json
refusal_none asked code why =
    let first = put (codes "responseCode") (number (unsigned code)) no_members in
    let named = put_text (codes "handle") asked first in
    put_none (codes "message") (string (text_of why)) named refl
    (put_none (codes "handle") (string (text_of asked)) first refl
    (put_none (codes "responseCode") (number (unsigned code)) no_members refl refl))
