-- What of a batch may be under way together, and which key answers a challenge.
use Rattle.std.specs.Prelude.{◌≡◌, ◌⊎◌, ⊤, ℕ, ◌+◌, Bool, true, false, List, [], ◌∷◌, All, Option, Some, IfSome, option_and_then}
use Rattle.std.specs.List.{slice_get}
use Rattle.hdl_msg.specs.Reply.{ReplyParts}
use Rattle.hdl_client.specs.About.{IsAnswerTo}
use Rattle.hdl_client.specs.Asking.{IsUnchallenged}
use Rattle.hdl_client.specs.Challenge.{Answers}
use Rattle.hdl_client.specs.declared.batch.PendingRequest.{PendingRequest}
use Rattle.hdl_client.specs.declared.batch.ReplyAction.{ReplyAction}
use Rattle.hdl_client.specs.declared.batch.ReplyAction.TheVariants.{Done, Challenge}
use Rattle.hdl_client.specs.declared.challenge.Key.{Key}
use Rattle.hdl_client.specs.declared.task.Task.{Task}

-- one of two tasks may change what the other needs, or they are of one handle
abbrev pub OrderMatters : Task → Task → Type 0
OrderMatters one other = (one.request.is_alone ≡ true) ⊎ (other.request.is_alone ≡ true) ⊎ (one.request.handle ≡ other.request.handle)

-- the order of the task in flight and this one doesn't matter
abbrev pub IsApart : Task → PendingRequest → Type 0
IsApart task pending = ¬ (OrderMatters pending.task.now task)

-- of no two of these tasks in flight does the order matter
abbrev pub AreApart : List PendingRequest → Type 0
AreApart [] = ⊤
AreApart (pending ∷ others) = All (IsApart pending.task.now) others × AreApart others

-- how many frames may still come for one in flight: the reply, and before it a challenge that wasn't answered yet
abbrev pub frames_for : Bool → ℕ
frames_for true = 1
frames_for false = 2

abbrev pub frames_awaited : List PendingRequest → ℕ
frames_awaited [] = 0
frames_awaited (pending ∷ others) = frames_for pending.is_answer + frames_awaited others

-- the key that a task names among those of its batch
abbrev pub key_of : List Key → Task → Option Key
key_of keys task = option_and_then (λ place. slice_get keys place) task.key

-- the key that a task names answers this reply, which challenges it
abbrev pub AnswersFor : List Key → Task → ReplyParts → List ℕ → Type 0
AnswersFor keys task reply answer = (key : Key) × (key_of keys task ≡ Some key) × Answers key task.request.octets reply answer

-- the reply is a task's outcome: it is about what the task asks, and no challenge, unless the task has no key or has answered one
pub record IsOutcome (keys : List Key) (task : Task) (has_answered : Bool) (reply : ReplyParts) (code : ℕ) : Type 0 where
  pub told : code ≡ reply.header.response_code
  pub about : IsAnswerTo task.request.wire task.request.octets reply
  pub last : has_answered ≡ false → IfSome (key_of keys task) (λ _. IsUnchallenged reply)

-- a reply in flight is its task's outcome, or a challenge, which is answered once, by the key that the task names
abbrev pub Classifies : List Key → PendingRequest → ReplyParts → ReplyAction → Type 0
Classifies keys pending reply (Done code) = IsOutcome keys pending.task.now pending.is_answer reply code
Classifies keys pending reply (Challenge answer) = (pending.is_answer ≡ false) × AnswersFor keys pending.task.now reply answer.items
