-- The statuses of HTTP (RFC 9110, section 15), and the status and the phrases of each response code.
use Rattle.std.specs.Prelude.{ℕ, ◌==◌, ◌||◌, Bool, List, codes, eqb, if◌then◌else◌}
use Rattle.std.specs.List.{ends_with}
use Rattle.hdl_languages.specs.declared.phrase.Phrase.{Phrase}
use Rattle.hdl_languages.specs.declared.phrase.Phrase.TheVariants as phrases
use Rattle.hdl_proxy.specs.declared.answer.Status.{Status}
use Rattle.hdl_proxy.specs.declared.codes.TheConstants.{SUCCESS, SERVER_BUSY, OPERATION_DENIED, HANDLE_NOT_FOUND, INVALID_HANDLE, VALUE_NOT_FOUND, SERVICE_REFERRAL, TOO_FAR}
use Rattle.hdl_proxy.specs.declared.answer.Status.TheVariants.{Success, Created, NoContent, Found, NotModified, BadRequest, Unauthorized, Forbidden, NotFound, MethodNotAllowed, RequestTimeout, Conflict, Gone, ContentTooLarge, BadGateway, Unavailable}

abbrev pub status_number : Status → ℕ
status_number Success = 200
status_number Created = 201
status_number NoContent = 204
status_number Found = 302
status_number NotModified = 304
status_number BadRequest = 400
status_number Unauthorized = 401
status_number Forbidden = 403
status_number NotFound = 404
status_number MethodNotAllowed = 405
status_number RequestTimeout = 408
status_number Conflict = 409
status_number Gone = 410
status_number ContentTooLarge = 413
status_number BadGateway = 502
status_number Unavailable = 503

-- that of a reply that isn't followed, by its code
abbrev pub status_of_code : ℕ → Status
status_of_code code =
    if (code == SUCCESS) || (code == VALUE_NOT_FOUND) then Success
    else if (code == HANDLE_NOT_FOUND) || (code == SERVICE_REFERRAL) then NotFound
    else if code == INVALID_HANDLE then BadRequest
    else if code == SERVER_BUSY then Unavailable
    else BadGateway

-- the code that is told: where no server has the prefix, the handle isn't there
abbrev pub reported_code : ℕ → ℕ
reported_code code = if code == SERVICE_REFERRAL then HANDLE_NOT_FOUND else code

-- why there are no values, by the code
abbrev pub refused_words : ℕ → Phrase
refused_words code =
    if code == HANDLE_NOT_FOUND then phrases.NotThere
    else if code == INVALID_HANDLE then phrases.ServerSaysNoHandle
    else if code == VALUE_NOT_FOUND then phrases.NoSuchValue
    else if code == SERVICE_REFERRAL then phrases.NoSuchPrefix
    else if code == SERVER_BUSY then phrases.Busy
    else phrases.CouldNotAnswer

-- a page's advice to who asked for this name, by the code
abbrev pub ends_with_slash : List ℕ → Bool
ends_with_slash asked = ends_with eqb asked (codes "/")

abbrev pub look_again : List ℕ → Phrase
look_again asked = if ends_with_slash asked then phrases.LookAtSlash else phrases.LookAgain

abbrev pub advice : ℕ → List ℕ → Phrase
advice code asked =
    if (code == HANDLE_NOT_FOUND) || (code == SERVICE_REFERRAL) then look_again asked
    else if code == INVALID_HANDLE then phrases.HandleForm
    else if code == VALUE_NOT_FOUND then phrases.SelectOthers
    else if code == OPERATION_DENIED then phrases.FollowLink
    else if code == TOO_FAR then phrases.TellGiver
    else phrases.ComeBack
