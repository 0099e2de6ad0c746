-- What serving an event does to its lane and the table.
use Rattle.std.specs.Prelude.{◌≡◌, ℕ, List, Bool, ◌==◌, true, false, ◌⊎◌, Option, Some, None, Result, Ok, Err}
use Rattle.std.specs.Option.{option_map_or}
use Rattle.hdl_auth.specs.declared.algorithm.Algorithm.{Algorithm}
use Rattle.hdl_auth.specs.declared.algorithm.Algorithm.TheVariants.{Sha1}
use Rattle.hdl_frame.specs.declared.envelope.Envelope.{Envelope}
use Rattle.hdl_frame.specs.Envelope.{envelope_at}
use Rattle.hdl_frame.specs.Frames.{IsFrame}
use Rattle.hdl_msg.specs.declared.replies.ReplyContent.{ReplyContent}
use Rattle.hdl_msg.specs.declared.replies.ReplyContent.TheVariants.{Empty}
use Rattle.hdl_msg.specs.Codes.{IsNumberOf, response_number}
use Rattle.hdl_msg.specs.declared.codes.ResponseCode.TheVariants.{OperationDenied, ServerBusy, AuthenticationNeeded}
use Rattle.hdl_msg.specs.Message.{Content, SpellsRequest, code_of}
use Rattle.hdl_msg.specs.Reply.{short_reply, reply_parts, IsAnnounced}
use Rattle.hdl_pool.specs.Partial.{piece_of}
use Rattle.hdl_pool.specs.Taking.{take_piece}
use Rattle.hdl_rows.specs.Table.{Table}
use Rattle.hdl_rows.specs.declared.rows.Refused.{Refused}
use Rattle.hdl_ops.specs.Decisions.{Anyone, Decision, Decides, site_decision}
use Rattle.hdl_ops.specs.Requests.{Response}
use Rattle.hdl_ops.specs.Views.{algorithms_by, hosted_by, site_by, wire_by}
use Rattle.hdl_ops.specs.Admission.{request_algorithm}
use Rattle.hdl_slots.specs.declared.pending.Pending.{Pending}
use Rattle.hdl_slots.specs.Lanes.{challenge_of}
use Rattle.hdl_ops.specs.Replies.{digest_of, reply_to}
use Rattle.hdl_ops.specs.Tables.{apply_if}
use Rattle.hdl_events.specs.declared.What.{What}
use Rattle.hdl_events.specs.declared.Outcome.{Outcome}
use Rattle.hdl_events.specs.declared.Outcome.TheVariants.{Reply, Busy, Silent}
use Rattle.hdl_laws.specs.Tasks as tasks
use Rattle.hdl_laws.specs.Tasks.{Task, IsReading, without_challenge, redeem_task, IsResponseTask, IsTask, IsMessageTask, IsPieceTask, IsOctetsTask, Received}
use Rattle.hdl_laws.specs.Effects.{answer_octets, challenge_octets, Effect, Does}
use Rattle.hdl_laws.specs.Steps.{what_of, moment_of}
use Rattle.hdl_laws.specs.Lanes.{LaneState}
use Rattle.hdl_laws.specs.LaneProfile.{LaneProfile}
use Rattle.hdl_core.specs.declared.origin.Origin.{Origin}
use Rattle.hdl_core.specs.declared.origin.Received as code
use Rattle.hdl_core.specs.declared.messages.RequestResult.{RequestResult}
use Rattle.hdl_core.specs.declared.lane_context.LaneContext.{LaneContext}
use Rattle.hdl_core.specs.declared.messages.RequestResult.TheVariants.{Answered, Challenged}
use Rattle.hdl_core.specs.Held.{Held, state_at, with_state}

-- what was received, in the words of the laws
abbrev pub received_of : code.Received → Received
received_of received = record { peer = received.peer; moment = received.moment; nonce = received.nonce; bytes = received.bytes }

-- what was received, where the message came as these octets
abbrev pub received_as : Origin → List ℕ → Received
received_as origin bytes = record { peer = origin.peer; moment = origin.moment; nonce = origin.nonce; bytes = bytes }

-- a message with where it came from
abbrev pub message_as : Origin → List ℕ → tasks.Message
message_as origin message = record { peer = origin.peer; moment = origin.moment; nonce = origin.nonce; envelope = origin.envelope; message = message }

-- What an event of a lane is decided by: how its publisher's lanes speak, the prefixes that are hosted for that publisher, their hash functions, and the table.
pub record Context : Type 0 where
  pub lane_profile : LaneProfile
  pub hosts : List ℕ → Bool
  pub algorithms : List ℕ → Algorithm
  pub table : Table

-- how the publisher's lanes speak
abbrev pub lane_profile_by : LaneContext → LaneProfile
lane_profile_by lane_context = record { wire = wire_by lane_context.owner; site = site_by lane_context.owner; takes_changes = lane_context.takes_changes }

-- the context of the publisher's lanes
abbrev pub context : LaneContext → Table → Context
context lane_context table = record { lane_profile = lane_profile_by lane_context; hosts = hosted_by lane_context.owner; algorithms = algorithms_by lane_context.owner; table = table }

-- The context of a lane, and all lanes.
pub record Scene : Type 0 where
  pub context : Context
  pub lanes : List Held

abbrev pub scene : LaneContext → Table → List Held → Scene
scene lane_context table lanes = record { context = context lane_context table; lanes = lanes }

-- A challenge response as it came: from where, its request, and what it answers.
pub record Returned : Type 0 where
  pub origin : Origin
  pub request : Content
  pub response : Response

-- the header of the reply to this request, with this code and content, announces what it carries
abbrev pub Announces : Algorithm → Origin → Content → ℕ → ReplyContent → Type 0
Announces algorithm origin request code content = IsAnnounced (reply_parts (reply_to algorithm origin.moment origin.envelope.session origin.envelope.request request code content))

-- the request's header has the code of its operation
abbrev pub HasItsCode : Content → Type 0
HasItsCode request = IsNumberOf (code_of request.operation) request.header.op_code

-- what is sent to a request that is decided for anyone
abbrev pub sent_of : RequestResult → List ℕ
sent_of (Answered octets) = octets
sent_of (Challenged octets digest) = octets

-- the challenge of a request of this algorithm under this number
abbrev pub challenge_of_request : Algorithm → Origin → ℕ → Content → RequestResult
challenge_of_request algorithm origin next request = Challenged (challenge_octets algorithm origin.moment next origin.envelope request origin.nonce) (digest_of algorithm request)

-- the decision about a request for anyone
abbrev pub DecidesForAnyone : Context → Content → Decision → Type 0
DecidesForAnyone given request decision = Decides given.hosts (request_algorithm given.algorithms request) given.table request Anyone decision

-- a request is decided for anyone: it is answered, or challenged under the lane's next number
abbrev pub IsDecidedForAnyone : Context → Origin → ℕ → Content → RequestResult → Table → Type 0
IsDecidedForAnyone given origin next request (Answered octets) table' =
    (decision : Decision) × DecidesForAnyone given request decision × ((decision.code == response_number AuthenticationNeeded) ≡ false)
    × (octets ≡ answer_octets (request_algorithm given.algorithms request) origin.moment origin.envelope request decision.code decision.content) × (table' ≡ apply_if given.table origin.moment decision.change)
IsDecidedForAnyone given origin next request (Challenged octets digest) table' =
    (decision : Decision) × DecidesForAnyone given request decision × ((decision.code == response_number AuthenticationNeeded) ≡ true)
    × (octets ≡ challenge_octets (request_algorithm given.algorithms request) origin.moment next origin.envelope request origin.nonce) × (digest ≡ digest_of (request_algorithm given.algorithms request) request) × (table' ≡ given.table)

-- the octets deny the request
abbrev pub IsDenied : (List ℕ → Algorithm) → Origin → Content → List ℕ → Type 0
IsDenied algorithms origin request octets = octets ≡ answer_octets (request_algorithm algorithms request) origin.moment origin.envelope request (response_number OperationDenied) Empty

-- the octets answer a question for site information with this record
abbrev pub IsInformed : Origin → Content → List ℕ → List ℕ → Type 0
IsInformed origin request site octets = octets ≡ answer_octets Sha1 origin.moment origin.envelope request (site_decision Sha1 request site).code (site_decision Sha1 request site).content

-- the task has this effect
abbrev pub HasEffect : Context → Task → Effect → Type 0
HasEffect given task effect = Does given.hosts given.algorithms given.table task effect

-- the task has this reply, and leaves the lane and the table so
abbrev pub Replies : Context → ℕ → Task → List ℕ → LaneState → Table → Type 0
Replies given moment task octets state' table' =
    (effect : Effect) × HasEffect given task effect × (effect.outcome ≡ Reply octets) × (effect.state ≡ state') × (table' ≡ apply_if given.table moment effect.change)

-- a challenge response that names this challenge has this reply, whatever else the lane holds
abbrev pub IsRedeemed : Context → Origin → Response → Pending → List ℕ → Table → Type 0
IsRedeemed given origin response pending octets table' =
    (state : LaneState) (message : List ℕ) → (reading : Option Content) × IsReading (SpellsRequest given.lane_profile.wire pending.message) reading
    × Replies given origin.moment (redeem_task given.lane_profile.takes_changes state (message_as origin message) response pending reading) octets (without_challenge state (message_as origin message)) table'

-- what was returned, as a task of a lane in this state
abbrev pub IsReturnedTask : LaneProfile → LaneState → Returned → List ℕ → Task → Type 0
IsReturnedTask lane_profile state returned message task = IsResponseTask lane_profile state (message_as returned.origin message) returned.request returned.response (challenge_of state.challenges.challenges returned.origin.peer returned.origin.envelope.session) task

-- a challenge response on a lane has this reply
abbrev pub RespondsAt : Scene → ℕ → Returned → List ℕ → List Held → Table → Type 0
RespondsAt given number returned octets lanes' table' =
    (message : List ℕ) → (state' : LaneState) × (lanes' ≡ with_state given.lanes number state') × (task : Task)
    × IsReturnedTask given.context.lane_profile (state_at given.lanes number) returned message task × Replies given.context returned.origin.moment task octets state' table'

-- a message on a lane has this reply
abbrev pub IsMessageHandled : Context → LaneState → tasks.Message → List ℕ → LaneState → Table → Type 0
IsMessageHandled given state message octets state' table' = (task : Task) × IsMessageTask given.lane_profile state message task × Replies given message.moment task octets state' table'

-- the lanes after that
abbrev pub HandlesMessageAt : Scene → ℕ → tasks.Message → List ℕ → List Held → Table → Type 0
HandlesMessageAt given number message octets lanes' table' =
    (state' : LaneState) × (lanes' ≡ with_state given.lanes number state') × IsMessageHandled given.context (state_at given.lanes number) message octets state' table'

-- the outcome of a frame with this envelope: its reply if it has one, or busy
abbrev pub outcome_of : Envelope → Result (Option (List ℕ)) Refused → Outcome
outcome_of envelope (Ok (Some octets)) = Reply octets
outcome_of envelope (Ok None) = Silent
outcome_of envelope (Err refused) = Busy (short_reply (response_number ServerBusy) envelope)

-- a piece that came on an open lane has this reply, or none yet
abbrev pub IsAssembled : Context → LaneState → Received → Option (List ℕ) → LaneState → Table → Type 0
IsAssembled given state piece reply state' table' =
    (effect : Effect) × (task : Task) × IsPieceTask given.lane_profile state piece (take_piece state.partials (piece_of piece.peer piece.bytes)) task × HasEffect given task effect
    × (effect.outcome ≡ option_map_or Reply reply Silent) × (effect.state ≡ state') × (table' ≡ apply_if given.table piece.moment effect.change)

abbrev pub AssemblesAt : Scene → ℕ → Received → Option (List ℕ) → List Held → Table → Type 0
AssemblesAt given number piece reply lanes' table' =
    (state' : LaneState) × (lanes' ≡ with_state given.lanes number state') × IsAssembled given.context (state_at given.lanes number) piece reply state' table'

-- octets that came on an open lane have this outcome, or are refused and nothing changed
abbrev pub IsReceived : Context → LaneState → Received → Outcome → LaneState → Table → Type 0
IsReceived given state came outcome state' table' =
    ((effect : Effect) × (task : Task) × IsOctetsTask given.lane_profile state came task × HasEffect given task effect × (outcome ≡ effect.outcome) × (state' ≡ effect.state) × (table' ≡ apply_if given.table came.moment effect.change))
    ⊎ (IsFrame came.bytes × (outcome ≡ Busy (short_reply (response_number ServerBusy) (envelope_at came.bytes))) × (state' ≡ state) × (table' ≡ given.table))

abbrev pub ReceivesAt : Scene → ℕ → Received → Outcome → List Held → Table → Type 0
ReceivesAt given number came outcome lanes' table' =
    (state' : LaneState) × (lanes' ≡ with_state given.lanes number state') × IsReceived given.context (state_at given.lanes number) came outcome state' table'

-- an event of the lane has this outcome, and leaves the lane and the table so
abbrev pub IsAnswered : Context → LaneState → What → Outcome → LaneState → Table → Type 0
IsAnswered given state what outcome state' table' =
    (effect : Effect) × (task : Task) × IsTask given.lane_profile state what task × HasEffect given task effect × (outcome ≡ effect.outcome) × (state' ≡ effect.state) × (table' ≡ apply_if given.table (moment_of what) effect.change)

-- a frame on the open lane is refused, and the lane stays
pub record IsTurnedDown (table : Table) (state : LaneState) (what : What) (answer : Outcome) (state' : LaneState) (table' : Table) : Type 0 where
  pub received : Received
  pub frame_event : what ≡ what_of received
  pub frame : IsFrame received.bytes
  pub is_open : state.is_open ≡ true
  pub outcome : answer ≡ Busy (short_reply (response_number ServerBusy) (envelope_at received.bytes))
  pub lane_stays : state' ≡ state
  pub table_stays : table' ≡ table

abbrev pub IsEventHandled : Context → LaneState → What → Outcome → LaneState → Table → Type 0
IsEventHandled given state what outcome state' table' = IsAnswered given state what outcome state' table' ⊎ IsTurnedDown given.table state what outcome state' table'

abbrev pub HandlesEventAt : Scene → ℕ → What → Outcome → List Held → Table → Type 0
HandlesEventAt given number what outcome lanes' table' =
    (state' : LaneState) × (lanes' ≡ with_state given.lanes number state') × IsEventHandled given.context (state_at given.lanes number) what outcome state' table'
