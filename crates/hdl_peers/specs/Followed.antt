-- What is kept of a lane, as far as the trail sees it (docs/PROTOCOL.md, "One event").
use Rattle.std.specs.Prelude.{ℕ, Bool, false, not, ◌==◌, ◌&&◌, ◌||◌, nat_lt, if◌then◌else◌, List, [], ◌∷◌, ◌++◌, length, drop, filter, find, Option, Some, None, is_none}
use Rattle.std.specs.List.{list_any}
use Rattle.std.specs.Option.{option_and_then, option_or}
use Rattle.hdl_limits.specs.declared.TheConstants.{CHALLENGES_MAX, PARTIALS_MAX}
use Rattle.hdl_msg.specs.declared.codes.OpCode.TheVariants.{ChallengeResponse}
use Rattle.hdl_msg.specs.declared.codes.ResponseCode.TheVariants.{AuthenticationNeeded, ProtocolError, ServerBusy}
use Rattle.hdl_msg.specs.Codes.{op_number, response_number}
use Rattle.hdl_peers.specs.declared.kept.MessageKey.{MessageKey}
use Rattle.hdl_peers.specs.declared.kept.Mark.{Mark}
use Rattle.hdl_peers.specs.declared.kept.SentChallenge.{SentChallenge}
use Rattle.hdl_peers.specs.declared.exchange.Exchange.{Exchange}

-- what is followed: the messages of which pieces are kept, and the challenges, each the oldest first
pub record Followed : Type 0 where
  pub partials : List Mark
  pub challenges : List SentChallenge

-- the message is this key's
abbrev pub is_of : MessageKey → Mark → Bool
is_of key m = m.key.number == key.number && m.key.session == key.session && m.key.request == key.request

-- the challenge was sent to this peer, under this SessionId
abbrev pub is_from : ℕ → ℕ → SentChallenge → Bool
is_from number session s = s.number == number && s.session == session

-- pieces of a message, or a challenge, are kept under the number
abbrev pub is_held : Followed → ℕ → Bool
is_held f number = list_any (λ m. m.key.number == number) f.partials || list_any (λ s. s.number == number) f.challenges

-- one more behind the others, of which the oldest goes where there are as many as may be
abbrev pub put_behind : {A : Type 0} → ℕ → List A → A → List A
put_behind most kept newest = if nat_lt (length kept) most then kept ++ newest ∷ [] else drop 1 kept ++ newest ∷ []

-- ---- a frame that isn't answered

-- the message that begins with the frame
abbrev pub first_mark : Exchange → Mark
first_mark e = record { key = e.key; length = e.length; operation = e.operation }

-- the message with the frame's piece: its operation is known once its front came; a piece of another length is ignored
abbrev pub with_frame : Exchange → Mark → Mark
with_frame e m = if m.length == e.length && is_none m.operation then record m { operation = e.operation } else m

-- the messages, where the first of the frame's key has its piece
abbrev pub with_frame_among : Exchange → List Mark → List Mark
with_frame_among e [] = []
with_frame_among e (m ∷ ms) = if is_of e.key m then with_frame e m ∷ ms else m ∷ with_frame_among e ms

-- a piece goes to its message, or begins it
abbrev pub with_piece : Exchange → List Mark → List Mark
with_piece e ms = if list_any (is_of e.key) ms then with_frame_among e ms else put_behind PARTIALS_MAX ms (first_mark e)

-- what isn't answered is a piece that is kept or ignored, or is of no account
abbrev pub leave_unanswered : Followed → Exchange → Followed
leave_unanswered f e = if e.is_piece then record f { partials = with_piece e f.partials } else f

-- ---- a frame that is answered

-- the operation of the message that the frame brings, or makes whole
abbrev pub operation_of : Exchange → List Mark → Option ℕ
operation_of e ms = option_or e.operation (if e.is_piece then option_and_then (λ m. m.operation) (find (is_of e.key) ms) else None)

-- of a message that is whole nothing is kept
abbrev pub end_message : Exchange → List Mark → List Mark
end_message e ms = if e.is_piece then filter (λ m. not (is_of e.key m)) ms else ms

-- the operation is a challenge response
abbrev pub is_response : Option ℕ → Bool
is_response None = false
is_response (Some operation) = operation == op_number ChallengeResponse

-- a challenge response spends the challenge of its peer and SessionId, unless it is out of the grammar
abbrev pub redeem : MessageKey → Option ℕ → ℕ → List SentChallenge → List SentChallenge
redeem key operation code sent =
    if is_response operation && not (code == response_number ProtocolError)
    then filter (λ s. not (is_from key.number key.session s)) sent
    else sent

-- a challenge is put under its SessionId, which no other has then
abbrev pub add_challenge : ℕ → ℕ → ℕ → List SentChallenge → List SentChallenge
add_challenge number code session sent =
    if code == response_number AuthenticationNeeded
    then put_behind CHALLENGES_MAX (filter (λ s. not (s.session == session)) sent) (record { number = number; session = session })
    else sent

-- what a reply of this code under this SessionId leaves
abbrev pub leave_answered : Followed → Exchange → ℕ → ℕ → Followed
leave_answered f e code session = record {
  partials = end_message e f.partials;
  challenges = add_challenge e.key.number code session (redeem e.key (operation_of e f.partials) code f.challenges);
}

-- a busy answer changes nothing
abbrev pub finish_by : Followed → Exchange → Option (ℕ × ℕ) → Followed
finish_by f e None = leave_unanswered f e
finish_by f e (Some reply) = if reply.0 == response_number ServerBusy then f else leave_answered f e reply.0 reply.1

-- what is followed once the last frame and its reply, if any, are settled
abbrev pub finish_exchange : Followed → Option Exchange → Followed
finish_exchange f None = f
finish_exchange f (Some e) = finish_by f e e.reply
