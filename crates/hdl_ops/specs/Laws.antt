-- Laws over decisions.
use Rattle.std.specs.Prelude.{◌≡◌, ℕ, ◌==◌, List, Bool, IsTrue, if◌then◌else◌}
use Rattle.hdl_name.specs.Name.{sent_prefix}
use Rattle.hdl_auth.specs.declared.algorithm.Algorithm.{Algorithm}
use Rattle.hdl_rows.specs.Table.{Table}
use Rattle.hdl_msg.specs.Codes.{response_number}
use Rattle.hdl_msg.specs.declared.codes.ResponseCode.TheVariants.{Success, ServiceReferral}
use Rattle.hdl_msg.specs.Message.{Content}
use Rattle.hdl_msg.specs.declared.replies.ReplyContent.{ReplyContent}
use Rattle.hdl_msg.specs.declared.replies.ReplyContent.TheVariants.{Referral, Empty}
use Rattle.hdl_ops.specs.Decisions.{Level, Decision, Decides, carried_content}
use Rattle.hdl_ops.specs.Replies.{fits}
use Rattle.hdl_ops.specs.Requests.{sent_handle}
use Rattle.hdl_ops.specs.TableViews.{table_view}

-- a request is decided in one way
abbrev pub OneDecision : Type 0
OneDecision = (hosts : List ℕ → Bool) (a : Algorithm) (t : Table) (r : Content) (level : Level) (d d' : Decision) → Decides hosts a t r level d → Decides hosts a t r level d' → d ≡ d'

-- what is told with a code: with Success the values that are asked for and that the level may read, or the handles of the prefix
-- that is listed; with ServiceReferral the prefix that was named; nothing with another
abbrev pub content_by_code : Table → Content → Level → ℕ → ReplyContent
content_by_code t r level code =
    if code == response_number Success then carried_content (table_view t r) r level
    else (if code == response_number ServiceReferral then Referral (sent_prefix (sent_handle r.operation)) else Empty)

-- a decision tells what its code says, and no more
abbrev pub TellsByCode : Type 0
TellsByCode = (hosts : List ℕ → Bool) (a : Algorithm) (t : Table) (r : Content) (level : Level) (d : Decision) → Decides hosts a t r level d → d.content ≡ content_by_code t r level d.code

-- a reply without content fits into a message
abbrev pub EmptyFits : Type 0
EmptyFits = (a : Algorithm) (r : Content) → IsTrue (fits a r Empty)
