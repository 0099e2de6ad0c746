-- What a task does, by the table and what is hosted: an outcome, the lane after it, and perhaps a change.
use Rattle.std.specs.Prelude.{◌≡◌, ℕ, List, Bool, ◌==◌, Option, None, if◌then◌else◌}
use Rattle.hdl_auth.specs.declared.algorithm.Algorithm.{Algorithm}
use Rattle.hdl_auth.specs.declared.algorithm.Algorithm.TheVariants.{Sha1}
use Rattle.hdl_auth.specs.Digest.{algorithm_of}
use Rattle.hdl_frame.specs.declared.envelope.Envelope.{Envelope}
use Rattle.hdl_msg.specs.Codes.{response_number}
use Rattle.hdl_msg.specs.declared.codes.ResponseCode.TheVariants.{ProtocolError, OperationDenied, AuthenticationNeeded, AuthenticationTimeout}
use Rattle.hdl_msg.specs.Message.{Content}
use Rattle.hdl_msg.specs.declared.replies.ReplyContent.{ReplyContent}
use Rattle.hdl_msg.specs.declared.replies.ReplyContent.TheVariants.{Empty}
use Rattle.hdl_frame.specs.Envelope.{message_envelope}
use Rattle.hdl_msg.specs.Reply.{reply_octets, short_reply}
use Rattle.hdl_rows.specs.Table.{Table}
use Rattle.hdl_slots.specs.declared.pending.Pending.{Pending}
use Rattle.hdl_slots.specs.Lanes.{add_challenge}
use Rattle.hdl_ops.specs.declared.change.Change.{Change}
use Rattle.hdl_ops.specs.Admission.{request_algorithm}
use Rattle.hdl_ops.specs.Decisions.{Decision, Anyone, Proven, failure, site_decision, Decides}
use Rattle.hdl_ops.specs.Proven.{Proof}
use Rattle.hdl_ops.specs.Replies.{digest_of, reply_to, challenge_to}
use Rattle.hdl_events.specs.declared.Outcome.{Outcome}
use Rattle.hdl_events.specs.declared.Outcome.TheVariants.{Reply, Silent, CloseAfter}
use Rattle.hdl_laws.specs.Lanes.{LaneState}
use Rattle.hdl_laws.specs.Tasks.{Message, Task, Ignore, Break, Malformed, Unknown, Late, Deny, Ask, Inform, Redeem}

-- what an event of a lane does: its outcome, the lane after it, and the change of the table
pub record Effect : Type 0 where
  pub outcome : Outcome
  pub state : LaneState
  pub change : Option Change

-- a reply of this moment to the request of this algorithm, with the envelope's session and request number
abbrev pub answer_octets : Algorithm → ℕ → Envelope → Content → ℕ → ReplyContent → List ℕ
answer_octets algorithm moment envelope request code content = reply_octets (reply_to algorithm moment envelope.session envelope.request request code content)

-- a challenge of this moment under this number, with the envelope's request number
abbrev pub challenge_octets : Algorithm → ℕ → ℕ → Envelope → Content → List ℕ → List ℕ
challenge_octets algorithm moment number envelope request nonce = reply_octets (challenge_to algorithm moment number envelope.request request nonce)

-- the request that waits for its response
abbrev pub pending : Algorithm → Message → Content → Pending
pending algorithm arrival request = record { peer = arrival.peer; moment = arrival.moment; nonce = arrival.nonce; digest = digest_of algorithm request; message = arrival.message }

-- the lane's next number, and the challenge put under it
abbrev pub challenge_effect : Algorithm → LaneState → Message → Content → Effect
challenge_effect algorithm state arrival request = record {
  outcome = Reply (challenge_octets algorithm arrival.moment state.challenges.next arrival.envelope request arrival.nonce);
  state = record state { challenges = add_challenge state.challenges (pending algorithm arrival request) };
  change = None;
}

-- the reply to the request, and the change
abbrev pub answer_effect : Algorithm → LaneState → Message → Content → Decision → Effect
answer_effect algorithm state arrival request decision = record {
  outcome = Reply (answer_octets algorithm arrival.moment arrival.envelope request decision.code decision.content);
  state = state;
  change = decision.change;
}

-- a request decided for anyone: AuthenticationNeeded is a challenge
abbrev pub ask_effect : Algorithm → LaneState → Message → Content → Decision → Effect
ask_effect algorithm state arrival request decision =
    if decision.code == response_number AuthenticationNeeded
    then challenge_effect algorithm state arrival request
    else answer_effect algorithm state arrival request decision

-- the effect of a task on this table, for a publisher who hosts these prefixes with these algorithms: a request has that of its
-- prefix, a challenged one that of its challenge's digest; one without a prefix has SHA-1
abbrev pub Does : (List ℕ → Bool) → (List ℕ → Algorithm) → Table → Task → Effect → Type 0
Does hosted algorithms table (Ignore state) effect = effect ≡ record { outcome = Silent; state = state; change = None }
Does hosted algorithms table (Break session request state) effect = effect ≡ record { outcome = CloseAfter (short_reply (response_number ProtocolError) (message_envelope session request 0)); state = state; change = None }
Does hosted algorithms table (Malformed arrival state) effect = effect ≡ record { outcome = Reply (short_reply (response_number ProtocolError) arrival.envelope); state = state; change = None }
Does hosted algorithms table (Unknown arrival request state) effect = effect ≡ answer_effect Sha1 state arrival request (failure (response_number ProtocolError) Empty)
Does hosted algorithms table (Late arrival request algorithm state) effect = effect ≡ answer_effect algorithm state arrival request (failure (response_number AuthenticationTimeout) Empty)
Does hosted algorithms table (Deny arrival request state) effect = effect ≡ answer_effect (request_algorithm algorithms request) state arrival request (failure (response_number OperationDenied) Empty)
Does hosted algorithms table (Ask arrival request state) effect =
    (decision : Decision) × Decides hosted (request_algorithm algorithms request) table request Anyone decision × (effect ≡ ask_effect (request_algorithm algorithms request) state arrival request decision)
Does hosted algorithms table (Inform arrival request site state) effect = effect ≡ answer_effect Sha1 state arrival request (site_decision Sha1 request site)
Does hosted algorithms table (Redeem arrival request proof state) effect =
    (decision : Decision) × Decides hosted (algorithm_of proof.digest) table request (Proven proof) decision × (effect ≡ answer_effect (algorithm_of proof.digest) state arrival request decision)
