-- What is asked nests a few levels deep.
use Rattle.std.proofs.Common.{◌≡◌, ◌≤◌, ℕ, suc, max, List, [], ◌∷◌, map, Ordering, Less, Equal, Greater, nat_cmp, refl, arith}
use Rattle.std.specs.Ordering.{match_ordering}
use Rattle.std.specs.Cmp.Lexicographic.{slice_cmp}
use Rattle.std.specs.Prelude.{codes}
use Rattle.serde_json.specs.Data.{Data, number, unsigned, string, array, object, Members, no_members, member, put, depth, items_depth, members_depth}
use Rattle.serde_json.specs.View.{items_of}
use Rattle.serde_json.specs.Read.{max_depth}
use Rattle.hdl_etcd.specs.declared.asking.Compare.{Compare}
use Rattle.hdl_etcd.specs.declared.asking.Compare.TheVariants.{Has, IsAbsent}
use Rattle.hdl_etcd.specs.declared.asking.Operation.{Operation}
use Rattle.hdl_etcd.specs.declared.asking.Operation.TheVariants.{Put, Delete}
use Rattle.hdl_etcd.specs.declared.asking.Transaction.{Transaction}
use Rattle.hdl_etcd.specs.declared.asking.KeyRange.{KeyRange}
use Rattle.hdl_etcd.specs.Asking.{base64_json, with_octets, with_text, single, only, fence_json, operation_json, read_json, transaction_json, keys_members, range_json, watch_json}

-- the members nest at most so deep
abbrev pub AreWithin : ℕ → Members → Type 0
AreWithin n ms = members_depth ms ≤ n

by_ordering : (o : Ordering) (n : ℕ) (a b c : Members) → AreWithin n a → AreWithin n b → AreWithin n c → AreWithin n (match_ordering o a b c)
by_ordering Less n a b c ha hb hc = ha
by_ordering Equal n a b c ha hb hc = hb
by_ordering Greater n a b c ha hb hc = hc

max_within : (a b n : ℕ) → a ≤ n → b ≤ n → max a b ≤ n
max_within a b n ha hb = omega (arith, ha, hb)

left_within : (a b n : ℕ) → max a b ≤ n → a ≤ n
left_within a b n h = omega (arith, h)

right_within : (a b n : ℕ) → max a b ≤ n → b ≤ n
right_within a b n h = omega (arith, h)

put_within : (n : ℕ) (k : List ℕ) (d : Data) (ms : Members) → depth d ≤ n → AreWithin n ms → AreWithin n (put k d ms)
put_within n k d no_members hd hms = max_within (depth d) 0 n hd hms
put_within n k d (member l e ms) hd hms =
    let he = left_within (depth e) (members_depth ms) n hms in
    let hs = right_within (depth e) (members_depth ms) n hms in
    by_ordering (slice_cmp nat_cmp k l) n _ _ _
    (max_within (depth d) _ n hd hms)
    (max_within (depth d) _ n hd hs)
    (max_within (depth e) _ n he (put_within n k d ms hd hs))

flat : 0 ≤ 0
flat = omega arith

text_within : (name text : List ℕ) (ms : Members) → AreWithin 0 ms → AreWithin 0 (with_text name text ms)
text_within name text ms h = put_within 0 name (string text) ms flat h

octets_within : (name octets : List ℕ) (ms : Members) → AreWithin 0 ms → AreWithin 0 (with_octets name octets ms)
octets_within name octets ms h = put_within 0 name (base64_json octets) ms flat h

object_within : (n : ℕ) (ms : Members) → AreWithin n ms → depth (object ms) ≤ suc n
object_within n ms h = omega (arith, h)

only_within : (n : ℕ) (d : Data) → depth d ≤ n → depth (only d) ≤ suc n
only_within n d h = omega (arith, max_within (depth d) 0 n h (omega arith))

single_within : (n : ℕ) (k : List ℕ) (d : Data) → depth d ≤ n → depth (single k d) ≤ suc n
single_within n k d h = object_within n (put k d no_members) (put_within n k d no_members h (omega arith))

shallow : (n : ℕ) (d : Data) → n ≤ 4 → depth d ≤ n → depth d ≤ max_depth
shallow n d few h = omega (arith, few, h)

-- ---- a transaction

abbrev fenced : List ℕ → List ℕ → Members
fenced target key = with_octets (codes "key") key (with_text (codes "target") target (with_text (codes "result") (codes "EQUAL") no_members))

fenced_within : (target key : List ℕ) → AreWithin 0 (fenced target key)
fenced_within target key =
    octets_within (codes "key") key (with_text (codes "target") target (with_text (codes "result") (codes "EQUAL") no_members))
    (text_within (codes "target") target (with_text (codes "result") (codes "EQUAL") no_members) (text_within (codes "result") (codes "EQUAL") no_members flat))

fence_within : (f : Compare) → depth (fence_json f) ≤ 1
unfolding fence_json
fence_within (Has key value) =
    let ms = fenced (codes "VALUE") key.now in
    object_within 0 (with_octets (codes "value") value.now ms) (octets_within (codes "value") value.now ms (fenced_within (codes "VALUE") key.now))
fence_within (IsAbsent key) =
    let ms = fenced (codes "CREATE") key.now in
    object_within 0 (with_text (codes "create_revision") (codes "0") ms) (text_within (codes "create_revision") (codes "0") ms (fenced_within (codes "CREATE") key.now))

abbrev keyed : List ℕ → Members
keyed key = with_octets (codes "key") key no_members

keyed_within : (key : List ℕ) → AreWithin 0 (keyed key)
keyed_within key = octets_within (codes "key") key no_members flat

operation_within : (o : Operation) → depth (operation_json o) ≤ 2
unfolding operation_json
operation_within (Put key value) =
    let ms = with_octets (codes "value") value.now (keyed key.now) in
    single_within 1 (codes "request_put") (object ms) (object_within 0 ms (octets_within (codes "value") value.now (keyed key.now) (keyed_within key.now)))
operation_within (Delete key) = single_within 1 (codes "request_delete_range") (object (keyed key.now)) (object_within 0 (keyed key.now) (keyed_within key.now))

read_within : (key : List ℕ) → depth (read_json key) ≤ 2
unfolding read_json
read_within key = single_within 1 (codes "request_range") (object (keyed key)) (object_within 0 (keyed key) (keyed_within key))

operations_within : (os : List Operation) → items_depth (items_of (map operation_json os)) ≤ 2
operations_within [] = omega arith
operations_within (o ∷ os) = max_within (depth (operation_json o)) (items_depth (items_of (map operation_json os))) 2 (operation_within o) (operations_within os)

abbrev compared : Compare → Members
compared f = put (codes "compare") (only (fence_json f)) no_members

compared_within : (f : Compare) → AreWithin 3 (compared f)
compared_within f =
    let within = only_within 1 (fence_json f) (fence_within f) in
    put_within 3 (codes "compare") (only (fence_json f)) no_members (omega (arith, within)) (omega arith)

abbrev made : Compare → List Operation → Members
made f os = put (codes "success") (array (items_of (map operation_json os))) (compared f)

made_within : (f : Compare) (os : List Operation) → AreWithin 3 (made f os)
made_within f os = put_within 3 (codes "success") (array (items_of (map operation_json os))) (compared f) (omega (arith, operations_within os)) (compared_within f)

pub transaction_within : (t : Transaction) → depth (transaction_json t) ≤ max_depth
unfolding transaction_json
transaction_within t =
    let other = only (read_json t.otherwise.now) in
    let ms = made t.fence t.operations.now in
    shallow 4 (transaction_json t) (omega arith)
    (object_within 3 (put (codes "failure") other ms) (put_within 3 (codes "failure") other ms (only_within 2 (read_json t.otherwise.now) (read_within t.otherwise.now)) (made_within t.fence t.operations.now)))

-- ---- a range and a watch

keys_within : (keys : KeyRange) → AreWithin 0 (keys_members keys)
unfolding keys_members
keys_within keys = octets_within (codes "range_end") keys.to.now (keyed keys.from.now) (keyed_within keys.from.now)

abbrev limited : KeyRange → ℕ → Members
limited keys limit = put (codes "limit") (number (unsigned limit)) (keys_members keys)

limited_within : (keys : KeyRange) (limit : ℕ) → AreWithin 0 (limited keys limit)
limited_within keys limit = put_within 0 (codes "limit") (number (unsigned limit)) (keys_members keys) flat (keys_within keys)

pub range_within : (keys : KeyRange) (limit : ℕ) (revision : List ℕ) → depth (range_json keys limit revision) ≤ max_depth
unfolding range_json
range_within keys limit revision =
    shallow 1 (range_json keys limit revision) (omega arith)
    (object_within 0 (with_text (codes "revision") revision (limited keys limit)) (text_within (codes "revision") revision (limited keys limit) (limited_within keys limit)))

abbrev started : KeyRange → List ℕ → Members
started keys revision = with_text (codes "start_revision") revision (keys_members keys)

one_more : (ms : Members) → AreWithin 0 ms → AreWithin 1 ms
one_more ms h = omega (arith, h)

started_within : (keys : KeyRange) (revision : List ℕ) → AreWithin 1 (started keys revision)
started_within keys revision = one_more (started keys revision) (text_within (codes "start_revision") revision (keys_members keys) (keys_within keys))

pub watch_within : (keys : KeyRange) (revision : List ℕ) → depth (watch_json keys revision) ≤ max_depth
unfolding watch_json
watch_within keys revision =
    let kind = only (string (codes "NODELETE")) in
    let ms = started keys revision in
    shallow 3 (watch_json keys revision) (omega arith)
    (single_within 2 (codes "create_request") (object (put (codes "filters") kind ms))
    (object_within 1 (put (codes "filters") kind ms) (put_within 1 (codes "filters") kind ms (only_within 0 (string (codes "NODELETE")) flat) (started_within keys revision))))
