-- The numbers of operations, responses and flags, under the names of RFC 3652, sections 2.2.2.1 to 2.2.2.3 (docs/PROTOCOL.md,
-- "Message").
use Rattle.std.specs.Prelude.{◌≡◌, ◌≢◌, ℕ, ◌==◌, if◌then◌else◌, Bool, Option, Some, None}
use Rattle.hdl_value.specs.Permission.{has_bit}
use Rattle.hdl_msg.specs.declared.codes.OpCode.{OpCode}
use Rattle.hdl_msg.specs.declared.codes.OpCode.TheVariants.{Resolution, GetSiteInfo, CreateHandle, DeleteHandle, AddValue, RemoveValue, ModifyValue, ListHandles, ChallengeResponse}
use Rattle.hdl_msg.specs.declared.codes.OpFlag.{OpFlag}
use Rattle.hdl_msg.specs.declared.codes.OpFlag.TheVariants.{Authoritative, Certified, Encrypted, Recursive, CacheAuthentication, Continuous, KeepConnection, PublicOnly, ReturnDigest}
use Rattle.hdl_msg.specs.declared.codes.ResponseCode.{ResponseCode}
use Rattle.hdl_msg.specs.declared.codes.ResponseCode.TheVariants.{Success, Error, ServerBusy, ProtocolError, OperationDenied, HandleNotFound, HandleAlreadyExists, InvalidHandle}
use Rattle.hdl_msg.specs.declared.codes.ResponseCode.TheVariants.{ValueNotFound, ValueAlreadyExists, ValueInvalid, ServiceReferral, NotAuthorized, AccessDenied}
use Rattle.hdl_msg.specs.declared.codes.ResponseCode.TheVariants.{AuthenticationNeeded, AuthenticationFailed, InvalidCredential, AuthenticationTimeout, UnableToAuthenticate}

abbrev pub op_number : OpCode → ℕ
op_number Resolution = 1
op_number GetSiteInfo = 2
op_number CreateHandle = 100
op_number DeleteHandle = 101
op_number AddValue = 102
op_number RemoveValue = 103
op_number ModifyValue = 104
op_number ListHandles = 105
op_number ChallengeResponse = 200

-- the operation of a number, of those that are used
unfoldable pub op_code_of : ℕ → Option OpCode
op_code_of n =
    if n == 1 then Some Resolution
    else if n == 2 then Some GetSiteInfo
    else if n == 100 then Some CreateHandle
    else if n == 101 then Some DeleteHandle
    else if n == 102 then Some AddValue
    else if n == 103 then Some RemoveValue
    else if n == 104 then Some ModifyValue
    else if n == 105 then Some ListHandles
    else if n == 200 then Some ChallengeResponse
    else None

-- the number is that of this operation, or of none that is used
abbrev pub IsNumberOf : Option OpCode → ℕ → Type 0
IsNumberOf (Some code) n = n ≡ op_number code
IsNumberOf None n = (code : OpCode) → n ≢ op_number code

-- the flags of a header, from its highest bit on
abbrev pub flag_bit : OpFlag → ℕ
flag_bit Authoritative = 0x80000000
flag_bit Certified = 0x40000000
flag_bit Encrypted = 0x20000000
flag_bit Recursive = 0x10000000
flag_bit CacheAuthentication = 0x08000000
flag_bit Continuous = 0x04000000
flag_bit KeepConnection = 0x02000000
flag_bit PublicOnly = 0x01000000
flag_bit ReturnDigest = 0x00800000

abbrev pub has_flag : ℕ → OpFlag → Bool
has_flag flags flag = has_bit flags (flag_bit flag)

abbrev pub response_number : ResponseCode → ℕ
response_number Success = 1
response_number Error = 2
response_number ServerBusy = 3
response_number ProtocolError = 4
response_number OperationDenied = 5
response_number HandleNotFound = 100
response_number HandleAlreadyExists = 101
response_number InvalidHandle = 102
response_number ValueNotFound = 200
response_number ValueAlreadyExists = 201
response_number ValueInvalid = 202
response_number ServiceReferral = 302
response_number NotAuthorized = 400
response_number AccessDenied = 401
response_number AuthenticationNeeded = 402
response_number AuthenticationFailed = 403
response_number InvalidCredential = 404
response_number AuthenticationTimeout = 405
response_number UnableToAuthenticate = 406

-- the response of a number, of those that are used
unfoldable pub response_code_of : ℕ → Option ResponseCode
response_code_of n =
    if n == 1 then Some Success
    else if n == 2 then Some Error
    else if n == 3 then Some ServerBusy
    else if n == 4 then Some ProtocolError
    else if n == 5 then Some OperationDenied
    else if n == 100 then Some HandleNotFound
    else if n == 101 then Some HandleAlreadyExists
    else if n == 102 then Some InvalidHandle
    else if n == 200 then Some ValueNotFound
    else if n == 201 then Some ValueAlreadyExists
    else if n == 202 then Some ValueInvalid
    else if n == 302 then Some ServiceReferral
    else if n == 400 then Some NotAuthorized
    else if n == 401 then Some AccessDenied
    else if n == 402 then Some AuthenticationNeeded
    else if n == 403 then Some AuthenticationFailed
    else if n == 404 then Some InvalidCredential
    else if n == 405 then Some AuthenticationTimeout
    else if n == 406 then Some UnableToAuthenticate
    else None

-- the number is that of this response, or of none that is used
abbrev pub IsResponseNumberOf : Option ResponseCode → ℕ → Type 0
IsResponseNumberOf (Some code) n = n ≡ response_number code
IsResponseNumberOf None n = (code : ResponseCode) → n ≢ response_number code
