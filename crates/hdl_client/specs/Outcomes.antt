-- What goes and comes of a batch, and what is told of it.
use Rattle.std.specs.Prelude.{◌≡◌, ◌<◌, ℕ, Bool, true, false, List, [], ◌∷◌, ◌++◌, length, get_or, drop, map, All, Contains, IsPermutation}
use Rattle.std.specs.List.{concat, FoldsTo, remove}
use Rattle.std.specs.Io.KnownBytes.{Appends, Keeps}
use Rattle.hdl_frame.specs.Envelope.{envelope_at}
use Rattle.hdl_value.specs.declared.wire.Wire.{Wire}
use Rattle.hdl_msg.specs.Reply.{ReplyParts, SpellsReply}
use Rattle.hdl_client.specs.Batch.{AnswersFor, IsOutcome}
use Rattle.hdl_client.specs.Exchange.{frame_octets, delivery_in}
use Rattle.hdl_client.specs.Reply.{IsReplyTo}
use Rattle.hdl_client.specs.declared.batch.PendingRequest.{PendingRequest}
use Rattle.hdl_client.specs.declared.challenge.Key.{Key}
use Rattle.hdl_client.specs.declared.task.Task.{Task}
use Rattle.hdl_client.specs.declared.transport.Transport.{Ghosts}

-- a task, and the code that was told of it
pub record Outcome : Type 0 where
  pub task : Task
  pub code : ℕ

abbrev pub outcome_task : Outcome → Task
outcome_task outcome = outcome.task

abbrev pub task_of : PendingRequest → Task
task_of pending = pending.task.now

-- the frames that were sent and that came, and what was told, each oldest first
pub record Run : Type 0 where
  pub sent : List (List ℕ)
  pub came : List (List ℕ)
  pub told : List Outcome

-- A frame that came carries this reply to the request with this number.
pub record Brings (frames : List (List ℕ)) (wire : Wire) (number : ℕ) (frame : List ℕ) (reply : ReplyParts) : Type 0 where
  pub came : Contains frames frame
  pub own : IsReplyTo wire number (delivery_in wire frame)
  pub read : SpellsReply wire (drop 20 frame) reply

-- The frame is the answer to the task's challenge, by its key, under the challenge's session.
pub record IsAnswerFrame (keys : List Key) (run : Run) (task : Task) (number : ℕ) (frame : List ℕ) : Type 0 where
  pub first : ℕ
  pub asked : Contains run.sent (frame_octets 0 first task.request.octets)
  pub challenge : List ℕ
  pub parts : ReplyParts
  pub challenged : Brings run.came task.request.wire first challenge parts
  pub answer : List ℕ
  pub right : AnswersFor keys task parts answer
  pub answered : frame ≡ frame_octets (envelope_at challenge).session number answer

-- the frame asks for the task under this number: it is that of its request, or of the answer to its challenge
abbrev pub AsksFor : List Key → Run → Task → ℕ → Bool → List ℕ → Type 0
AsksFor keys run task number false frame = frame ≡ frame_octets 0 number task.request.octets
AsksFor keys run task number true frame = IsAnswerFrame keys run task number frame

-- such a frame was sent
abbrev pub WasAsked : List Key → Run → Task → ℕ → Bool → Type 0
WasAsked keys run task number is_answer = (frame : List ℕ) × Contains run.sent frame × AsksFor keys run task number is_answer frame

-- the frame asks for one of these tasks
abbrev pub AsksForOne : List Key → Run → List Task → List ℕ → Type 0
AsksForOne keys run tasks frame = (task : Task) × (number : ℕ) × (is_answer : Bool) × Contains tasks task × AsksFor keys run task number is_answer frame

-- What was told is the code of the reply that came to the task's request, or to the answer to its challenge.
pub record IsOutcomeRight (keys : List Key) (run : Run) (outcome : Outcome) : Type 0 where
  pub number : ℕ
  pub has_answered : Bool
  pub asked : WasAsked keys run outcome.task number has_answered
  pub frame : List ℕ
  pub reply : ReplyParts
  pub came : Brings run.came outcome.task.request.wire number frame reply
  pub right : IsOutcome keys outcome.task has_answered reply outcome.code

-- the task in flight was asked for under its number
abbrev pub IsWaiting : List Key → Run → PendingRequest → Type 0
IsWaiting keys run pending = WasAsked keys run pending.task.now pending.request pending.is_answer

-- the flight was taken out of the first list, which leaves the second
abbrev pub IsTaken : List PendingRequest → PendingRequest → List PendingRequest → Type 0
IsTaken before pending after = (place : ℕ) × (place < length before) × (get_or before place pending ≡ pending) × (after ≡ remove before place)

-- The message was sent for the task in one frame, and the task is in flight with its number.
pub record IsSentFor {T : Type 0} (g : Ghosts T) (before : T) (in_flight : List PendingRequest) (task : Task) (session : ℕ) (message : List ℕ) (is_answer : Bool) (after : T) (more : List PendingRequest) : Type 0 where
  pub pending : PendingRequest
  pub own : pending.task.now ≡ task
  pub kind : pending.is_answer ≡ is_answer
  pub joined : more ≡ in_flight ++ pending ∷ []
  pub sent : Appends (g.sent before) (g.sent after) (frame_octets session pending.request message)
  pub received : Keeps (g.received before) (g.received after)

-- Of these tasks each has been told once or is in flight, each told rightly, and just the frames of the run went and came.
pub record IsRun {T O : Type 0} (g : Ghosts T) (notes : O → Task → ℕ → O → Type 0) (keys : List Key) (start : T) (begun : O) (tasks : List Task) (run : Run) (stream : T) (outcomes : O) (in_flight : List PendingRequest) : Type 0 where
  pub sent : Appends (g.sent start) (g.sent stream) (concat run.sent)
  pub received : Appends (g.received start) (g.received stream) (concat run.came)
  pub told : FoldsTo (λ (old : O) (outcome : Outcome) (new : O). notes old outcome.task outcome.code new) begun run.told outcomes
  pub each : IsPermutation tasks (map outcome_task run.told ++ map task_of in_flight)
  pub right : All (IsOutcomeRight keys run) run.told
  pub waiting : All (IsWaiting keys run) in_flight
  pub proper : All (AsksForOne keys run tasks) run.sent

-- a run of these tasks that was at the first state goes on to the second
abbrev pub GoesOn : {T O : Type 0} → Ghosts T → (O → Task → ℕ → O → Type 0) → List Key → T → O → List PendingRequest → T → O → List PendingRequest → Type 0
GoesOn {T} {O} g notes keys stream outcomes in_flight then_stream then_outcomes then_flights =
    (start : T) (begun : O) (tasks : List Task) (run : Run) → IsRun g notes keys start begun tasks run stream outcomes in_flight
    → (after : Run) × IsRun g notes keys start begun tasks after then_stream then_outcomes then_flights

-- all of the tasks were asked, each was told once, and nothing else went or came
abbrev pub IsWhole : {T O : Type 0} → Ghosts T → (O → Task → ℕ → O → Type 0) → List Key → List Task → T → O → T → O → Type 0
IsWhole g notes keys tasks start begun stream outcomes = (run : Run) × IsRun g notes keys start begun tasks run stream outcomes []
