-- A request that is short can be written, and what is written of it spells it.
use Rattle.std.proofs.Common.{◌≡◌, ℕ, ◌+◌, ◌*◌, ◌^◌, ◌<◌, ◌≤◌, List, [], ◌∷◌, ◌++◌, length, refl, sym, ap, ◌∙◌, arith}
use Rattle.std.specs.List.{flat_map, AllByRecursion}
use Rattle.std.proofs.lemmas.List.{length-append}
use Rattle.std.proofs.lemmas.List.Concat.{flat_map-cons}
use Rattle.hdl_value.specs.declared.value.Value.{Value}
use Rattle.hdl_value.specs.Spelling.{string, CanBeSpelt}
use Rattle.hdl_value.specs.declared.wire.Wire.{Wire}
use Rattle.hdl_value.specs.Wires.{wire_spelling}
use Rattle.hdl_msg.specs.declared.fields.Header.{Header}
use Rattle.hdl_msg.specs.declared.codes.OpCode.{OpCode}
use Rattle.hdl_msg.specs.declared.codes.OpCode.TheVariants.{Resolution as ResolutionCode, GetSiteInfo, CreateHandle, DeleteHandle, AddValue, RemoveValue, ModifyValue, ListHandles, ChallengeResponse}
use Rattle.hdl_msg.specs.declared.request_body.RequestBody.{RequestBody}
use Rattle.hdl_msg.specs.declared.request_body.RequestBody.TheVariants.{Resolution, Create, Delete, Add, Remove, Modify, List as ListAll, Response}
use Rattle.hdl_msg.specs.Codes.{op_number, IsNumberOf}
use Rattle.hdl_msg.specs.Message.{number, count_prefixed, body, header_octets, IsShort, IsNumber, HeaderFits, OperationFits, code_of, SpellsRequest}
use Rattle.hdl_limits.specs.declared.TheConstants.{MESSAGE_MAX}
use Rattle.hdl_msg.specs.RequestBody.{request_header, operation_read, request_read, requested_operation, requested_code, request_message, request_length, CanBeRequested}
use Rattle.hdl_msg.proofs.Seen.{same_body}
use Rattle.hdl_msg.proofs.Written.{few_from, each_from, some_spelling, short_value}

pub length-numbers : (ns : List ℕ) → length (flat_map number ns) ≡ length ns * 4
length-numbers [] = refl
length-numbers (n ∷ ns) =
    let e : length (flat_map number (n ∷ ns)) ≡ length (number n) + length (flat_map number ns) = ap length (flat_map-cons number n ns) ∙ length-append (number n) (flat_map number ns) in
    omega (arith, e, length-numbers ns)

-- ---- what is short enough has lengths that fit

short_string : (t more : List ℕ) (n : ℕ) → length (string t ++ more) ≤ n → (length t ≤ n) × (length more ≤ n)
short_string t more n le = let e = length-append t more in (omega (arith, e, le), omega (arith, e, le))

can_list : (wire : Wire) (handle : List ℕ) (values : List Value) → length (string handle ++ count_prefixed (wire_spelling wire) values) ≤ MESSAGE_MAX → IsShort handle × ((length values < 2 ^ 32) × AllByRecursion CanBeSpelt values)
can_list wire handle values le =
    let s = short_string handle (count_prefixed (wire_spelling wire) values) MESSAGE_MAX le in
    (omega (arith, s.0), (omega (arith, s.1, few_from (wire_spelling wire) (some_spelling wire) values), each_from (wire_spelling wire) CanBeSpelt (2 ^ 32) (short_value wire) values (omega (arith, s.1))))

can : (wire : Wire) (b : RequestBody) → length (body wire (requested_operation b)) ≤ MESSAGE_MAX → CanBeRequested b
can wire (Resolution handle indexes types) le =
    let s = short_string handle (count_prefixed number indexes ++ count_prefixed string types) MESSAGE_MAX le in
    let e = length-append (flat_map number indexes) (count_prefixed string types) in
    (omega (arith, s.0), (omega (arith, s.1, e, length-numbers indexes), (omega (arith, s.1, e, few_from string (λ t. omega arith) types), each_from string IsShort (2 ^ 32) (λ t l. omega (arith, l)) types (omega (arith, s.1, e)))))
can wire (Create handle values) le = can_list wire handle values le
can wire (Delete handle) le = omega (arith, le)
can wire (Add handle values) le = can_list wire handle values le
can wire (Remove handle indexes) le =
    let s = short_string handle (count_prefixed number indexes) MESSAGE_MAX le in
    (omega (arith, s.0), omega (arith, s.1, length-numbers indexes))
can wire (Modify handle values) le = can_list wire handle values le
can wire (ListAll handle) le = omega (arith, le)
can wire (Response kind handle index answer) le =
    let s = short_string kind (string handle ++ (number index ++ string answer)) MESSAGE_MAX le in
    let t = short_string handle (number index ++ string answer) MESSAGE_MAX s.1 in
    (omega (arith, s.0), (omega (arith, t.0), omega (arith, t.1)))

pub can_request : (wire : Wire) (b : RequestBody) → request_length wire b ≤ MESSAGE_MAX → CanBeRequested b
can_request wire b le = can wire b (omega (arith, le))

-- ---- the whole request

pub length-request_message : (wire : Wire) (h : Header) (b : RequestBody) → length (request_message wire h b) ≡ request_length wire b
unfolding header_octets
length-request_message wire h b = omega (arith, length-append (body wire (requested_operation b)) (string []))

has_number : (wire : Wire) (b : RequestBody) → IsNumberOf (code_of (operation_read wire (requested_operation b))) (op_number (requested_code b))
has_number wire (Resolution handle indexes types) = refl
has_number wire (Create handle values) = refl
has_number wire (Delete handle) = refl
has_number wire (Add handle values) = refl
has_number wire (Remove handle indexes) = refl
has_number wire (Modify handle values) = refl
has_number wire (ListAll handle) = refl
has_number wire (Response kind handle index answer) = refl

small_code : (code : OpCode) → IsNumber (op_number code)
small_code ResolutionCode = omega arith
small_code GetSiteInfo = omega arith
small_code CreateHandle = omega arith
small_code DeleteHandle = omega arith
small_code AddValue = omega arith
small_code RemoveValue = omega arith
small_code ModifyValue = omega arith
small_code ListHandles = omega arith
small_code ChallengeResponse = omega arith

pub request_is_spelt : (wire : Wire) (h : Header) (n : ℕ) (b : RequestBody) → HeaderFits (record { op_code = n; response_code = h.response_code; op_flag = h.op_flag; serial = h.serial; recursion = h.recursion; reserved = h.reserved; expiration = h.expiration })
    → OperationFits wire (operation_read wire (requested_operation b)) → request_length wire b ≤ MESSAGE_MAX → SpellsRequest wire (request_message wire h b) (request_read wire h b)
request_is_spelt wire h n b fits parts le = record {
  by_wire = refl;
  header_fits = record { op_code = small_code (requested_code b); response_code = fits.response_code; op_flag = fits.op_flag; serial = fits.serial; recursion = fits.recursion; reserved = fits.reserved; expiration = fits.expiration };
  operation_fits = parts;
  has_code = has_number wire b;
  body_fits = let same = ap length (same_body wire (requested_operation b)) in omega (arith, le, same);
  credential = [];
  credential_fits = omega arith;
  spelt = ap (λ (x : List ℕ). (header_octets (request_header h b) ++ string x) ++ string []) (sym (same_body wire (requested_operation b)));
}
