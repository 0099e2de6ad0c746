-- What is asked of etcd, as JSON.
use Rattle.std.specs.Prelude.{ℕ, List, [], ◌∷◌, map, codes}
use Rattle.base64.specs.Engines.{standard}
use Rattle.base64.specs.GeneralPurpose.{encode_of}
use Rattle.serde_json.specs.Data.{Data, number, unsigned, string, array, object, Members, no_members, put}
use Rattle.serde_json.specs.View.{items_of}
use Rattle.hdl_etcd.specs.declared.asking.Compare.{Compare}
use Rattle.hdl_etcd.specs.declared.asking.Compare.TheVariants.{Has, IsAbsent}
use Rattle.hdl_etcd.specs.declared.asking.Operation.{Operation}
use Rattle.hdl_etcd.specs.declared.asking.Operation.TheVariants.{Put, Delete}
use Rattle.hdl_etcd.specs.declared.asking.Transaction.{Transaction}
use Rattle.hdl_etcd.specs.declared.asking.KeyRange.{KeyRange}

-- octets, in base64
abbrev pub base64_json : List ℕ → Data
base64_json octets = string (encode_of standard octets)

abbrev pub with_octets : List ℕ → List ℕ → Members → Members
with_octets name octets members = put name (base64_json octets) members

abbrev pub with_text : List ℕ → List ℕ → Members → Members
with_text name text members = put name (string text) members

-- an object of one member, and an array of one item
abbrev pub single : List ℕ → Data → Data
single name told = object (put name told no_members)

abbrev pub only : Data → Data
only told = array (items_of (told ∷ []))

-- the key has the value, or was never made
unfoldable pub fence_json : Compare → Data
fence_json (Has key value) =
    object (with_octets (codes "value") value.now (with_octets (codes "key") key.now
    (with_text (codes "target") (codes "VALUE") (with_text (codes "result") (codes "EQUAL") no_members))))
fence_json (IsAbsent key) =
    object (with_text (codes "create_revision") (codes "0") (with_octets (codes "key") key.now
    (with_text (codes "target") (codes "CREATE") (with_text (codes "result") (codes "EQUAL") no_members))))

unfoldable pub operation_json : Operation → Data
operation_json (Put key value) = single (codes "request_put") (object (with_octets (codes "value") value.now (with_octets (codes "key") key.now no_members)))
operation_json (Delete key) = single (codes "request_delete_range") (object (with_octets (codes "key") key.now no_members))

-- one key is read
unfoldable pub read_json : List ℕ → Data
read_json key = single (codes "request_range") (object (with_octets (codes "key") key no_members))

-- if the fence holds the operations are made, in their order, and else the other key is read
unfoldable pub transaction_json : Transaction → Data
transaction_json t =
    object (put (codes "failure") (only (read_json t.otherwise.now))
    (put (codes "success") (array (items_of (map operation_json t.operations.now)))
    (put (codes "compare") (only (fence_json t.fence)) no_members)))

-- the keys from one on, up to another that isn't among them
unfoldable pub keys_members : KeyRange → Members
keys_members keys = with_octets (codes "range_end") keys.to.now (with_octets (codes "key") keys.from.now no_members)

-- so many of the keys, at a revision
unfoldable pub range_json : KeyRange → ℕ → List ℕ → Data
range_json keys limit revision = object (with_text (codes "revision") revision (put (codes "limit") (number (unsigned limit)) (keys_members keys)))

-- what is put under the keys from a revision on
unfoldable pub watch_json : KeyRange → List ℕ → Data
watch_json keys revision =
    single (codes "create_request") (object (put (codes "filters") (only (string (codes "NODELETE"))) (with_text (codes "start_revision") revision (keys_members keys))))
