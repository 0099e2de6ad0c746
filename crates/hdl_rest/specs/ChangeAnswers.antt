-- The status and the words of each response that a change may come to.
use Rattle.std.specs.Prelude.{ℕ, List, codes, Option, Some, None}
use Rattle.hdl_msg.specs.Codes.{response_code_of}
use Rattle.hdl_msg.specs.declared.codes.ResponseCode.{ResponseCode}
use Rattle.hdl_msg.specs.declared.codes.ResponseCode.TheVariants as response
use Rattle.hdl_proxy.specs.declared.answer.Status.{Status}
use Rattle.hdl_proxy.specs.declared.answer.Status.TheVariants.{Success, BadRequest, Unauthorized, Forbidden, NotFound, Conflict, BadGateway, Unavailable}

-- by what a server answers to a change, where that is a response
abbrev pub response_status : Option ResponseCode → Status
response_status (Some response.Success) = Success
response_status (Some response.HandleNotFound) = NotFound
response_status (Some response.ValueNotFound) = NotFound
response_status (Some response.ServiceReferral) = NotFound
response_status (Some response.HandleAlreadyExists) = Conflict
response_status (Some response.ValueAlreadyExists) = Conflict
response_status (Some response.InvalidHandle) = BadRequest
response_status (Some response.ValueInvalid) = BadRequest
response_status (Some response.NotAuthorized) = Unauthorized
response_status (Some response.AuthenticationNeeded) = Unauthorized
response_status (Some response.AuthenticationFailed) = Unauthorized
response_status (Some response.InvalidCredential) = Unauthorized
response_status (Some response.AuthenticationTimeout) = Unauthorized
response_status (Some response.UnableToAuthenticate) = Unauthorized
response_status (Some response.OperationDenied) = Forbidden
response_status (Some response.AccessDenied) = Forbidden
response_status (Some response.ServerBusy) = Unavailable
response_status (Some response.Error) = BadGateway
response_status (Some response.ProtocolError) = BadGateway
response_status None = BadGateway

abbrev pub response_words : Option ResponseCode → List ℕ
response_words (Some response.Error) = codes "The server's answer would be too long."
response_words (Some response.ServerBusy) = codes "The server is busy, or the space of this prefix there is full. Try again; if it stays so, ask its operator."
response_words (Some response.OperationDenied) = codes "This server takes no such change. If it is read-only, send the change to the server that isn't. Handles under 0.NA can't be created or deleted."
response_words (Some response.HandleNotFound) = codes "This handle isn't there."
response_words (Some response.HandleAlreadyExists) = codes "This handle is there already."
response_words (Some response.InvalidHandle) = codes "The server says that this is no handle."
response_words (Some response.ValueNotFound) = codes "A value is missing, or the key may not read it."
response_words (Some response.ValueAlreadyExists) = codes "A value with this index exists already."
response_words (Some response.ValueInvalid) = codes "The server refuses the values: a record has an HS_ADMIN value, and at most 1024 values."
response_words (Some response.ServiceReferral) = codes "None of the servers that were asked hosts this prefix."
response_words (Some response.NotAuthorized) = codes "The key is no administrator of this handle, or, for a new one, of the prefix's 0.NA/PREFIX."
response_words (Some response.AccessDenied) = codes "The key lacks a permission for this."
response_words (Some response.AuthenticationFailed) = codes "The secret isn't that of the key."
response_words (Some response.UnableToAuthenticate) = codes "There is no such key."
response_words (Some response.Success) = codes "The server couldn't answer."
response_words (Some response.ProtocolError) = codes "The server couldn't answer."
response_words (Some response.AuthenticationNeeded) = codes "The server couldn't answer."
response_words (Some response.InvalidCredential) = codes "The server couldn't answer."
response_words (Some response.AuthenticationTimeout) = codes "The server couldn't answer."
response_words None = codes "The server couldn't answer."

-- by its number
abbrev pub status_of_change : ℕ → Status
status_of_change code = response_status (response_code_of code)

abbrev pub change_words : ℕ → List ℕ
change_words code = response_words (response_code_of code)
