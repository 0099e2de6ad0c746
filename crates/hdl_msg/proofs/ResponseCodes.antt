-- The response of a number is the one whose number it is.
use Rattle.std.proofs.Common.{◌≡◌, Some, refl}
use Rattle.hdl_msg.specs.declared.codes.ResponseCode.{ResponseCode}
use Rattle.hdl_msg.specs.declared.codes.ResponseCode.TheVariants.{Success, Error, ServerBusy, ProtocolError, OperationDenied, HandleNotFound, HandleAlreadyExists, InvalidHandle}
use Rattle.hdl_msg.specs.declared.codes.ResponseCode.TheVariants.{ValueNotFound, ValueAlreadyExists, ValueInvalid, ServiceReferral, NotAuthorized, AccessDenied}
use Rattle.hdl_msg.specs.declared.codes.ResponseCode.TheVariants.{AuthenticationNeeded, AuthenticationFailed, InvalidCredential, AuthenticationTimeout, UnableToAuthenticate}
use Rattle.hdl_msg.specs.Codes.{response_number, response_code_of}

pub response_code_again : (code : ResponseCode) → response_code_of (response_number code) ≡ Some code
unfolding response_code_of
response_code_again Success = refl
response_code_again Error = refl
response_code_again ServerBusy = refl
response_code_again ProtocolError = refl
response_code_again OperationDenied = refl
response_code_again HandleNotFound = refl
response_code_again HandleAlreadyExists = refl
response_code_again InvalidHandle = refl
response_code_again ValueNotFound = refl
response_code_again ValueAlreadyExists = refl
response_code_again ValueInvalid = refl
response_code_again ServiceReferral = refl
response_code_again NotAuthorized = refl
response_code_again AccessDenied = refl
response_code_again AuthenticationNeeded = refl
response_code_again AuthenticationFailed = refl
response_code_again InvalidCredential = refl
response_code_again AuthenticationTimeout = refl
response_code_again UnableToAuthenticate = refl
