-- What a frame asks, as far as an entry speaks of it.
use Rattle.std.specs.Prelude.{Bool, true}
use Rattle.hdl_audit.specs.declared.question.RequestKind.{RequestKind}
use Rattle.hdl_audit.specs.declared.question.RequestKind.TheVariants.{Change, Response, Piece, Other}
use Rattle.hdl_audit.specs.ReplySummary.{changes}

-- what counts as a change is of an operation that changes a handle
abbrev pub is_consistent : RequestKind → Bool
is_consistent (Change operation handle) = changes operation
is_consistent (Response challenge key) = true
is_consistent Piece = true
is_consistent (Other operation) = true
