-- Requests to be written: what each asks for, and its one message (docs/PROTOCOL.md, "Message").
use Rattle.std.specs.Prelude.{ℕ, ◌+◌, ◌<◌, ◌^◌, List, [], ◌++◌, length, map}
use Rattle.std.specs.List.{AllByRecursion}
use Rattle.hdl_value.specs.declared.value.Value.{Value}
use Rattle.hdl_value.specs.Spelling.{string, CanBeSpelt}
use Rattle.hdl_value.specs.declared.wire.Wire.{Wire}
use Rattle.hdl_value.specs.Wires.{wire_seen}
use Rattle.hdl_msg.specs.declared.fields.Header.{Header}
use Rattle.hdl_msg.specs.declared.codes.OpCode.{OpCode}
use Rattle.hdl_msg.specs.declared.codes.OpCode.TheVariants.{Resolution as ResolutionCode, CreateHandle, DeleteHandle, AddValue, RemoveValue, ModifyValue, ListHandles, ChallengeResponse}
use Rattle.hdl_msg.specs.declared.request_body.RequestBody.{RequestBody}
use Rattle.hdl_msg.specs.declared.request_body.RequestBody.TheVariants.{Resolution, Create, Delete, Add, Remove, Modify, List as ListAll, Response}
use Rattle.hdl_msg.specs.Codes.{op_number}
use Rattle.hdl_msg.specs.Message.{Operation, resolution, site_info, create, delete, add, remove, modify, list, response, other, body, IsShort, Content, signed_octets}

-- the operation that is asked for
abbrev pub requested_operation : RequestBody → Operation
requested_operation (Resolution handle indexes types) = resolution handle indexes types
requested_operation (Create handle values) = create handle values
requested_operation (Delete handle) = delete handle
requested_operation (Add handle values) = add handle values
requested_operation (Remove handle indexes) = remove handle indexes
requested_operation (Modify handle values) = modify handle values
requested_operation (ListAll handle) = list handle
requested_operation (Response kind handle index answer) = response kind handle index answer

-- its code
abbrev pub requested_code : RequestBody → OpCode
requested_code (Resolution handle indexes types) = ResolutionCode
requested_code (Create handle values) = CreateHandle
requested_code (Delete handle) = DeleteHandle
requested_code (Add handle values) = AddValue
requested_code (Remove handle indexes) = RemoveValue
requested_code (Modify handle values) = ModifyValue
requested_code (ListAll handle) = ListHandles
requested_code (Response kind handle index answer) = ChallengeResponse

-- the header with the operation's code
abbrev pub request_header : Header → RequestBody → Header
request_header h b = record { op_code = op_number (requested_code b); response_code = h.response_code; op_flag = h.op_flag; serial = h.serial; recursion = h.recursion; reserved = h.reserved; expiration = h.expiration }

-- what the request says
abbrev pub request_content : Wire → Header → RequestBody → Content
request_content wire h b = record { wire = wire; header = request_header h b; operation = requested_operation b }

-- what is read of it: its values as their layout says them
abbrev pub operation_read : Wire → Operation → Operation
operation_read wire (resolution handle indexes types) = resolution handle indexes types
operation_read wire (site_info octets) = site_info octets
operation_read wire (create handle values) = create handle (map (wire_seen wire) values)
operation_read wire (delete handle) = delete handle
operation_read wire (add handle values) = add handle (map (wire_seen wire) values)
operation_read wire (remove handle indexes) = remove handle indexes
operation_read wire (modify handle values) = modify handle (map (wire_seen wire) values)
operation_read wire (list handle) = list handle
operation_read wire (response kind handle index answer) = response kind handle index answer
operation_read wire (other octets) = other octets

abbrev pub request_read : Wire → Header → RequestBody → Content
request_read wire h b = record { wire = wire; header = request_header h b; operation = operation_read wire (requested_operation b) }

-- its message: header and body, and an empty credential
abbrev pub request_message : Wire → Header → RequestBody → List ℕ
request_message wire h b = signed_octets (request_content wire h b) ++ string []

-- how many octets its message has
abbrev pub request_length : Wire → RequestBody → ℕ
request_length wire b = length (body wire (requested_operation b)) + 28

-- ---- what can be written

abbrev CanBeListed : List Value → Type 0
CanBeListed values = (length values < 2 ^ 32) × AllByRecursion CanBeSpelt values

-- lengths and counts fit their 4 octets
abbrev pub CanBeRequested : RequestBody → Type 0
CanBeRequested (Resolution handle indexes types) = IsShort handle × ((length indexes < 2 ^ 32) × ((length types < 2 ^ 32) × AllByRecursion IsShort types))
CanBeRequested (Create handle values) = IsShort handle × CanBeListed values
CanBeRequested (Delete handle) = IsShort handle
CanBeRequested (Add handle values) = IsShort handle × CanBeListed values
CanBeRequested (Remove handle indexes) = IsShort handle × (length indexes < 2 ^ 32)
CanBeRequested (Modify handle values) = IsShort handle × CanBeListed values
CanBeRequested (ListAll handle) = IsShort handle
CanBeRequested (Response kind handle index answer) = IsShort kind × (IsShort handle × IsShort answer)
