-- What one reply tells: its octets by its code, what it answers, and what may be read; and that its header announces it.
use Rattle.std.specs.Prelude.{◌≡◌, ℕ, ◌==◌, List, Option, Some, None, IfSome, drop, if◌then◌else◌}
use Rattle.hdl_auth.specs.declared.algorithm.Algorithm.{Algorithm}
use Rattle.hdl_auth.specs.declared.algorithm.Algorithm.TheVariants.{Sha1}
use Rattle.hdl_auth.specs.Digest.{algorithm_of}
use Rattle.hdl_rows.specs.Table.{Table}
use Rattle.hdl_msg.specs.Codes.{response_number}
use Rattle.hdl_msg.specs.declared.codes.ResponseCode.TheVariants.{Success, AuthenticationNeeded}
use Rattle.hdl_msg.specs.Message.{Content, IsShort}
use Rattle.hdl_msg.specs.Laws.{response_code_at}
use Rattle.hdl_msg.specs.Reply.{short_reply, ReplyParts, IsAnnounced, PartsFit, parts_body, parts_message, parts_read, IsReplyFrame, wire_of_content}
use Rattle.hdl_msg.specs.Reading.{reply_at}
use Rattle.hdl_msg.specs.declared.replies.ReplyContent.{ReplyContent}
use Rattle.hdl_msg.specs.declared.replies.ReplyContent.TheVariants.{Empty, Site}
use Rattle.hdl_ops.specs.Admission.{request_algorithm}
use Rattle.hdl_ops.specs.Decisions.{Anyone, Proven}
use Rattle.hdl_ops.specs.Laws.{content_by_code}
use Rattle.hdl_events.specs.declared.Event.{Event}
use Rattle.hdl_events.specs.declared.Outcome.{Outcome}
use Rattle.hdl_events.specs.declared.Outcome.TheVariants.{Reply, Busy, Silent, CloseAfter}
use Rattle.hdl_laws.specs.Lanes.{LaneState}
use Rattle.hdl_laws.specs.Worlds.{World, owner, algorithms_for, lane_of, lane_profile_for}
use Rattle.hdl_laws.specs.Tasks.{Message, Task, Ignore, Break, Malformed, Unknown, Late, Deny, Ask, Inform, Redeem, IsTask}
use Rattle.hdl_laws.specs.Effects.{answer_octets, challenge_octets}
use Rattle.hdl_laws.specs.Runs.{HasStep}

-- the reply with this code to a request that came as it is
abbrev pub asked_octets : Algorithm → Table → Message → Content → LaneState → ℕ → List ℕ
asked_octets algorithm table message request state code =
    if code == response_number AuthenticationNeeded then challenge_octets algorithm message.moment state.challenges.next message.envelope request message.nonce
    else answer_octets algorithm message.moment message.envelope request code (content_by_code table request Anyone code)

-- what the answer with this code to a question for site information carries
abbrev pub site_by_code : List ℕ → ℕ → ReplyContent
site_by_code site code = if code == response_number Success then Site site else Empty

-- The octets are the reply with this code to what the event comes to, where prefixes have these hash functions. Of the table they
-- hold what is told with the code at the level of the caller, and nothing else.
abbrev pub IsReplyBy : (List ℕ → Algorithm) → Table → Task → ℕ → List ℕ → Type 0
IsReplyBy algorithms table (Ignore state) code octets = ⊥
IsReplyBy algorithms table (Break session request state) code octets = ⊥
IsReplyBy algorithms table (Malformed message state) code octets = octets ≡ short_reply code message.envelope
IsReplyBy algorithms table (Unknown message request state) code octets = octets ≡ answer_octets Sha1 message.moment message.envelope request code Empty
IsReplyBy algorithms table (Late message request algorithm state) code octets = octets ≡ answer_octets algorithm message.moment message.envelope request code Empty
IsReplyBy algorithms table (Deny message request state) code octets = octets ≡ answer_octets (request_algorithm algorithms request) message.moment message.envelope request code Empty
IsReplyBy algorithms table (Ask message request state) code octets = octets ≡ asked_octets (request_algorithm algorithms request) table message request state code
IsReplyBy algorithms table (Inform message request site state) code octets = octets ≡ answer_octets Sha1 message.moment message.envelope request code (site_by_code site code)
IsReplyBy algorithms table (Redeem message request proof state) code octets = octets ≡ answer_octets (algorithm_of proof.digest) message.moment message.envelope request code (content_by_code table request (Proven proof) code)

-- the same in this world and on this lane
abbrev pub IsReplyTo : World → ℕ → Task → ℕ → List ℕ → Type 0
IsReplyTo world lane task code octets = IsReplyBy (algorithms_for world.site (owner world.site lane)) world.table task code octets

-- if the outcome is a reply, it is the one with its code to what the event comes to
abbrev pub Reveals : World → Event → Outcome → Type 0
Reveals world event outcome = (octets : List ℕ) → outcome ≡ Reply octets → (task : Task) × IsTask (lane_profile_for world.site (owner world.site event.lane)) (lane_of world event.lane) event.what task × IsReplyTo world event.lane task (response_code_at octets) octets

-- each step does
abbrev pub StepsTell : Type 0
StepsTell = (world new : World) (event : Event) (outcome : Outcome) → HasStep world event outcome new → Reveals world event outcome

-- ---- what a reply announces

-- The octets of a frame have the message of a reply whose header announces what it carries. If its parts fit their fields, it is read as
-- this reply, whatever was asked: by the layout of Handle.Net software each moment by its second.
abbrev pub IsSelfTold : List ℕ → Type 0
IsSelfTold octets = (parts : ReplyParts) × IsAnnounced parts × (drop 20 octets ≡ parts_message parts) × (PartsFit (parts_read parts) → IsShort (parts_body parts) → reply_at (wire_of_content parts.content) (drop 20 octets) ≡ Some (parts_read parts))

-- the octets that an outcome sends, if any
abbrev pub sent_by : Outcome → Option (List ℕ)
sent_by (Reply octets) = Some octets
sent_by (Busy octets) = Some octets
sent_by Silent = None
sent_by (CloseAfter octets) = Some octets

-- what each step sends is such a reply
abbrev pub StepsAnnounce : Type 0
StepsAnnounce = (world new : World) (event : Event) (outcome : Outcome) (octets : List ℕ) → HasStep world event outcome new → sent_by outcome ≡ Some octets → IsSelfTold octets

-- ---- what is read

-- what the outcome sends, if anything, is one frame, and `read_reply` reads its message
abbrev pub IsReadable : Outcome → Type 0
IsReadable outcome = IfSome (sent_by outcome) IsReplyFrame
