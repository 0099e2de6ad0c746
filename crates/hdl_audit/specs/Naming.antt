-- What the entry of a change names: what the peer asked to whom the reply goes, and nothing that another one asked.
use Rattle.std.specs.Prelude.{◌≡◌, ◌⊎◌, true, ℕ, List, Option, Some, None, Contains, option_map}
use Rattle.std.specs.Global.{Vec}
use Rattle.hdl_audit.specs.ReplySummary.{is_challenge}
use Rattle.hdl_audit.specs.declared.answer.ReplySummary.{ReplySummary}
use Rattle.hdl_audit.specs.declared.entry.Entry.{Entry}
use Rattle.hdl_audit.specs.declared.follower.Challenged.{Challenged}
use Rattle.hdl_audit.specs.declared.question.RequestKind.{RequestKind}
use Rattle.hdl_audit.specs.declared.question.RequestKind.TheVariants.{Change, Response, Piece, Other}
use Rattle.hdl_audit.specs.declared.question.UnansweredFrame.{UnansweredFrame}

-- the octets of a handle, if one is named
abbrev pub handle_octets : Option (Vec ℕ) → Option (List ℕ)
handle_octets handle = option_map (λ octets. octets.items) handle

-- a frame of this peer asks this
abbrev pub IsAsked : List UnansweredFrame → ℕ → RequestKind → Type 0
IsAsked frames peer request_kind = (frame : UnansweredFrame) × Contains frames frame × (frame.peer ≡ peer) × (frame.request_kind ≡ request_kind)

-- a change of this peer was challenged in this session: an operation on a handle
abbrev pub IsPending : List Challenged → ℕ → ℕ → ℕ → Option (List ℕ) → Type 0
IsPending challenged peer session operation handle =
    (change : Challenged) × Contains challenged change × (change.peer ≡ peer) × (change.session ≡ session)
    × (change.operation ≡ operation) × (handle_octets change.handle ≡ handle)

-- the entry names neither handle nor key
abbrev pub NamesNothing : Entry → Type 0
NamesNothing entry = (entry.handle ≡ None) × (entry.key ≡ None)

-- the entry names what this asks of this peer: a change, or the response to the challenge of one, which the peer itself asked
abbrev pub NamesBy : RequestKind → List Challenged → ℕ → Entry → Type 0
NamesBy (Change operation handle) challenged peer entry = (entry.operation ≡ operation) × (entry.handle ≡ handle) × (entry.key ≡ None)
NamesBy (Response challenge key) challenged peer entry = (entry.key ≡ key) × IsPending challenged peer challenge entry.operation (handle_octets entry.handle)
NamesBy Piece challenged peer entry = ⊥
NamesBy (Other operation) challenged peer entry = ⊥

-- the entry names nothing, or what a frame of this peer asks
abbrev pub NamesOwn : List UnansweredFrame → List Challenged → ℕ → Entry → Type 0
NamesOwn frames challenged peer entry = NamesNothing entry ⊎ ((request_kind : RequestKind) × IsAsked frames peer request_kind × NamesBy request_kind challenged peer entry)

-- what is in the list now was there before, or is new in this way
abbrev pub OnlyGains : {A : Type 0} → List A → (A → Type 0) → List A → Type 0
OnlyGains {A} old IsNew new = (x : A) → Contains new x → Contains old x ⊎ IsNew x

-- a change of this peer that this reply challenges
abbrev pub IsChallenged : RequestKind → ℕ → ReplySummary → Challenged → Type 0
IsChallenged request_kind peer answer one =
    (request_kind ≡ Change one.operation one.handle) × (one.peer ≡ peer) × (one.session ≡ answer.session) × (is_challenge answer ≡ true)

-- the same, which a frame of this peer asks
abbrev pub IsOwnChallenge : List UnansweredFrame → ℕ → Option ReplySummary → Challenged → Type 0
IsOwnChallenge frames peer None one = ⊥
IsOwnChallenge frames peer (Some answer) one = (request_kind : RequestKind) × IsAsked frames peer request_kind × IsChallenged request_kind peer answer one
