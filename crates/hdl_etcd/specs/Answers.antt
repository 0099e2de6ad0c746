-- What etcd answers, read from JSON.
use Rattle.std.specs.Prelude.{◌≡◌, ◌==◌, ◌⊎◌, ⊤, ℕ, Bool, true, false, List, [], ◌∷◌, codes, if◌then◌else◌, Option, Some, None, unwrap_or, Result, Ok, Err, ok_or}
use Rattle.std.specs.Option.{option_and_then}
use Rattle.std.specs.Result.{result_ok}
use Rattle.std.specs.Str.{is_utf8}
use Rattle.base64.specs.Engines.{standard}
use Rattle.base64.specs.GeneralPurpose.{decode_of}
use Rattle.serde_json.specs.Data.{Data, Items, no_items, item}
use Rattle.serde_json.specs.Find.{get, at, as_str, as_bool, as_array}
use Rattle.serde_json.specs.Read.{read}
use Rattle.hdl_etcd.specs.declared.fault.EtcdFault.{EtcdFault}
use Rattle.hdl_etcd.specs.declared.fault.EtcdFault.TheVariants.{NoAnswer, Refused, Spent, Malformed, Memory}
use Rattle.hdl_etcd.specs.declared.answers.Pair.{Pair}
use Rattle.hdl_etcd.specs.declared.answers.RangeResponse.{RangeResponse}
use Rattle.hdl_etcd.specs.declared.answers.WatchEvents.{WatchEvents}
use Rattle.hdl_etcd.specs.declared.answers.Outcome.{Outcome}
use Rattle.hdl_etcd.specs.declared.answers.Outcome.TheVariants.{Made, NotMade}

-- what follows a step, or the fault of the step
infixl 10 ◌>>>◌
abbrev pub ◌>>>◌ : {A B : Type 0} → Result A EtcdFault → (A → Result B EtcdFault) → Result B EtcdFault
Ok x >>> f = f x
Err e >>> f = Err e

-- why nothing is read: there was no memory, or what is wrong
abbrev pub IsFault : {A : Type 0} → Result A EtcdFault → EtcdFault → Type 0
IsFault told e = (e ≡ Memory) ⊎ (told ≡ Err e)

-- what a status says of a request: it was served, was refused, or nobody knows
abbrev pub check_status : ℕ → Result ⊤ EtcdFault
check_status status =
    if status == 200 then Ok tt
    else if status == 400 then Err Refused
    else if status == 429 then Err Spent
    else Err NoAnswer

-- what has to be there
abbrev pub wanted : {A : Type 0} → Option A → Result A EtcdFault
wanted o = ok_or o Malformed

-- the JSON that a body is, in UTF-8
abbrev pub text_in : List ℕ → Option (List ℕ)
text_in body = if is_utf8 body then Some body else None

abbrev pub json_in : List ℕ → Result Data EtcdFault
json_in body = wanted (option_and_then read (text_in body))

-- the octets that a member spells in base64; a member that isn't there spells none
abbrev pub octets_by : Option Data → Result (List ℕ) EtcdFault
octets_by None = Ok []
octets_by (Some d) = wanted (as_str d) >>> λ text. wanted (result_ok (decode_of standard text))

-- a key with its value
unfoldable pub pair_in : Data → Result Pair EtcdFault
pair_in d = octets_by (get (codes "key") d) >>> λ key. (octets_by (get (codes "value") d) >>> λ value. Ok (record { key = key; value = value }))

-- the list of these
abbrev pub each : Items → List Data
each no_items = []
each (item d ds) = d ∷ each ds

-- the pair that each of these is
abbrev pub pairs_from : List Data → Result (List Pair) EtcdFault
pairs_from [] = Ok []
pairs_from (d ∷ ds) = pair_in d >>> λ pair. (pairs_from ds >>> λ pairs. Ok (pair ∷ pairs))

-- the pairs of a member that is an array; a member that isn't there has none
abbrev pub pairs_by : Option Data → Result (List Pair) EtcdFault
pairs_by None = Ok []
pairs_by (Some d) = wanted (as_array d) >>> λ ds. pairs_from (each ds)

-- the member of this name is true
abbrev pub says : List ℕ → Data → Bool
says name d = unwrap_or (option_and_then as_bool (get name d)) false

-- the revision in an answer's header
abbrev pub revision_in : Data → Result (List ℕ) EtcdFault
revision_in d = wanted (get (codes "header") d) >>> λ header. wanted (option_and_then as_str (get (codes "revision") header))

-- ---- a range

unfoldable pub page_in_json : Data → Result RangeResponse EtcdFault
page_in_json d = revision_in d >>> λ revision. (pairs_by (get (codes "kvs") d) >>> λ pairs. Ok (record { pairs = pairs; has_more = says (codes "more") d; revision = revision }))

-- the page that a body is
unfoldable pub page_in : List ℕ → Result RangeResponse EtcdFault
page_in body = json_in body >>> page_in_json

-- ---- a transaction

-- the first response
abbrev pub not_made_in : Data → Result Outcome EtcdFault
not_made_in d =
    wanted (get (codes "responses") d) >>> λ responses.
    (wanted (option_and_then (get (codes "response_range")) (at 0 responses)) >>> λ range.
    (pairs_by (get (codes "kvs") range) >>> λ pairs. Ok (NotMade pairs)))

unfoldable pub outcome_in_json : Data → Result Outcome EtcdFault
outcome_in_json d = if says (codes "succeeded") d then Ok Made else not_made_in d

-- what came of a transaction, by a body
unfoldable pub outcome_in : List ℕ → Result Outcome EtcdFault
outcome_in body = json_in body >>> outcome_in_json

-- ---- a watch

-- what each of these events put
abbrev pub puts_from : List Data → Result (List Pair) EtcdFault
puts_from [] = Ok []
puts_from (d ∷ ds) = wanted (get (codes "kv") d) >>> λ told. (pair_in told >>> λ pair. (puts_from ds >>> λ pairs. Ok (pair ∷ pairs)))

abbrev pub puts_by : Option Data → Result (List Pair) EtcdFault
puts_by None = Ok []
puts_by (Some d) = wanted (as_array d) >>> λ ds. puts_from (each ds)

unfoldable pub watched_in_json : Data → Result WatchEvents EtcdFault
watched_in_json d =
    wanted (get (codes "result") d) >>> λ told. (puts_by (get (codes "events") told) >>> λ pairs. Ok (record { pairs = pairs; is_over = says (codes "canceled") told }))

-- what a line of a watch tells
unfoldable pub watched_in : List ℕ → Result WatchEvents EtcdFault
watched_in line = json_in line >>> watched_in_json
