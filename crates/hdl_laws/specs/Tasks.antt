-- What an event comes to before the table is looked at (docs/PROTOCOL.md, "One event").
use Rattle.std.specs.Prelude.{◌≡◌, ℕ, ◌-◌, List, Bool, true, false, not, ◌&&◌, nat_lt, is_some, Option, Some, None, if◌then◌else◌, ◌⊎◌, drop, MatchBool}
use Rattle.hdl_limits.specs.declared.TheConstants.{CHALLENGE_LIFE_MILLIS}
use Rattle.hdl_auth.specs.declared.algorithm.Algorithm.{Algorithm}
use Rattle.hdl_auth.specs.Digest.{algorithm_of}
use Rattle.hdl_frame.specs.declared.envelope.Envelope.{Envelope}
use Rattle.hdl_frame.specs.Envelope.{envelope_at, is_truncated}
use Rattle.hdl_frame.specs.Frames.{IsFrame}
use Rattle.hdl_msg.specs.Message.{Content, SpellsRequest, Operation, site_info}
use Rattle.hdl_pool.specs.Partial.{Partial, key_of, piece_of}
use Rattle.hdl_pool.specs.Taking.{Fate, take_piece, whole_message, free_partial}
use Rattle.hdl_slots.specs.declared.pending.Pending.{Pending}
use Rattle.hdl_slots.specs.Lanes.{challenge_of, spend_challenge}
use Rattle.hdl_ops.specs.Decisions.{change_of}
use Rattle.hdl_ops.specs.Proven.{Proof}
use Rattle.hdl_ops.specs.Requests.{Response, response_of}
use Rattle.hdl_events.specs.declared.What.{What}
use Rattle.hdl_events.specs.declared.What.TheVariants.{Open, Bad, Close}
use Rattle.hdl_laws.specs.Lanes.{LaneState, fresh, with_partials}
use Rattle.hdl_laws.specs.LaneProfile.{LaneProfile}

-- what a frame event brings
pub record Received : Type 0 where
  pub peer : ℕ
  pub moment : ℕ
  pub nonce : List ℕ
  pub bytes : List ℕ

-- a message that a frame on an open lane brings: who sent the frame, when, a nonce for it, and its envelope
pub record Message : Type 0 where
  pub peer : ℕ
  pub moment : ℕ
  pub nonce : List ℕ
  pub envelope : Envelope
  pub message : List ℕ

abbrev pub message_from : Received → List ℕ → Message
message_from received message = record { peer = received.peer; moment = received.moment; nonce = received.nonce; envelope = envelope_at received.bytes; message = message }

-- what an event comes to, with the lane as it then is
pub data Task : Type 0 where
  Ignore : LaneState → Task
  Break : ℕ → ℕ → LaneState → Task
  Malformed : Message → LaneState → Task
  Unknown : Message → Content → LaneState → Task
  Late : Message → Content → Algorithm → LaneState → Task
  Deny : Message → Content → LaneState → Task
  Ask : Message → Content → LaneState → Task
  Inform : Message → Content → List ℕ → LaneState → Task
  Redeem : Message → Content → Proof → LaneState → Task

-- what the octets spell, or that they spell nothing
abbrev pub IsReading : {A : Type 0} → (A → Type 0) → Option A → Type 0
IsReading {A} P None = (x : A) → P x → ⊥
IsReading P (Some x) = P x

-- the moment of the message is later than the challenge's by more than a challenge lives; an earlier moment counts as none
abbrev pub is_late : Message → Pending → Bool
is_late arrival challenge = nat_lt CHALLENGE_LIFE_MILLIS (arrival.moment - challenge.moment)

-- the lane without the challenge that the message names
abbrev pub without_challenge : LaneState → Message → LaneState
without_challenge state arrival = record state { challenges = spend_challenge state.challenges arrival.peer arrival.envelope.session }

-- the operation asks for a change, and none is taken
abbrev pub is_denied : Bool → Operation → Bool
is_denied takes_changes operation = not takes_changes && is_some (change_of operation)

-- a challenged request, by its time
abbrev pub due_task : LaneState → Message → Response → Pending → Content → Task
due_task state arrival response challenge request =
    if is_late arrival challenge
    then Late arrival request (algorithm_of challenge.digest) state
    else Redeem arrival request (record { response = response; nonce = challenge.nonce; digest = challenge.digest }) state

-- the challenged request, by the reading of its message; its challenge is spent
abbrev pub redeem_task : Bool → LaneState → Message → Response → Pending → Option Content → Task
redeem_task takes_changes state arrival response challenge None = Malformed arrival (without_challenge state arrival)
redeem_task takes_changes state arrival response challenge (Some request) =
    if is_denied takes_changes request.operation
    then Deny arrival request (without_challenge state arrival)
    else due_task (without_challenge state arrival) arrival response challenge request

-- a challenge response, by the challenge that it names
abbrev pub IsResponseTask : LaneProfile → LaneState → Message → Content → Response → Option Pending → Task → Type 0
IsResponseTask lane_profile state arrival request response None task = task ≡ Unknown arrival request state
IsResponseTask lane_profile state arrival request response (Some challenge) task =
    (reading : Option Content) × IsReading (SpellsRequest lane_profile.wire challenge.message) reading × (task ≡ redeem_task lane_profile.takes_changes state arrival response challenge reading)

-- the site information that answers an operation: the lane's, for a question for it
abbrev pub told_site : Option (List ℕ) → Operation → Option (List ℕ)
told_site site (site_info octets) = site
told_site site _ = None

-- a request as it came, by the site information that answers it
abbrev pub ask_task : LaneState → Message → Content → Option (List ℕ) → Task
ask_task state arrival request None = Ask arrival request state
ask_task state arrival request (Some site) = Inform arrival request site state

-- the same, unless it is denied
abbrev pub request_task : LaneProfile → LaneState → Message → Content → Task
request_task lane_profile state arrival request =
    if is_denied lane_profile.takes_changes request.operation
    then Deny arrival request state
    else ask_task state arrival request (told_site lane_profile.site request.operation)

-- a request, by whether it is a challenge response
abbrev pub IsRequestTask : LaneProfile → LaneState → Message → Content → Option Response → Task → Type 0
IsRequestTask lane_profile state arrival request None task = task ≡ request_task lane_profile state arrival request
IsRequestTask lane_profile state arrival request (Some response) task =
    IsResponseTask lane_profile state arrival request response (challenge_of state.challenges.challenges arrival.peer arrival.envelope.session) task

-- a message, by its reading
abbrev pub IsContentTask : LaneProfile → LaneState → Message → Option Content → Task → Type 0
IsContentTask lane_profile state arrival None task = task ≡ Malformed arrival state
IsContentTask lane_profile state arrival (Some request) task = IsRequestTask lane_profile state arrival request (response_of request.operation) task

-- a message, by what it spells
abbrev pub IsMessageTask : LaneProfile → LaneState → Message → Task → Type 0
IsMessageTask lane_profile state arrival task = (reading : Option Content) × IsReading (SpellsRequest lane_profile.wire arrival.message) reading × IsContentTask lane_profile state arrival reading task

-- a piece, by the message that it makes whole; the lane's partial message of its key is then gone
abbrev pub IsWholeTask : LaneProfile → LaneState → LaneState → Received → Option (List ℕ) → Task → Type 0
IsWholeTask lane_profile kept gone received None task = task ≡ Ignore kept
IsWholeTask lane_profile kept gone received (Some message) task = IsMessageTask lane_profile gone (message_from received message) task

-- a piece, by what becomes of it
abbrev pub IsPieceTask : LaneProfile → LaneState → Received → Fate × List Partial → Task → Type 0
IsPieceTask lane_profile state received after task =
    IsWholeTask lane_profile (with_partials state after.1) (with_partials state (free_partial state.partials (key_of received.peer (envelope_at received.bytes)))) received
    (whole_message after.0) task

-- a frame, by its message or by the piece of one that it is
abbrev pub IsFrameTask : LaneProfile → LaneState → Received → Task → Type 0
IsFrameTask lane_profile state received task =
    MatchBool (is_truncated (envelope_at received.bytes))
    (IsPieceTask lane_profile state received (take_piece state.partials (piece_of received.peer received.bytes)) task)
    (IsMessageTask lane_profile state (message_from received (drop 20 received.bytes)) task)

-- octets, by the frame that they are or are not
abbrev pub IsOctetsTask : LaneProfile → LaneState → Received → Task → Type 0
IsOctetsTask lane_profile state received task = (IsFrame received.bytes × IsFrameTask lane_profile state received task) ⊎ ((¬ IsFrame received.bytes) × (task ≡ Ignore state))

abbrev pub IsTask : LaneProfile → LaneState → What → Task → Type 0
IsTask lane_profile state Open task = task ≡ Ignore (fresh true)
IsTask lane_profile state Close task = task ≡ Ignore (fresh false)
IsTask lane_profile state (Bad session request) task = task ≡ (if state.is_open then Break session request state else Ignore state)
IsTask lane_profile state (What.Frame peer moment nonce bytes) task =
    MatchBool state.is_open
    (IsOctetsTask lane_profile state (record { peer = peer; moment = moment; nonce = nonce; bytes = bytes }) task)
    (task ≡ Ignore state)
