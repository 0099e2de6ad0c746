-- What is decided about a request: the first row of a table of decision whose test holds (docs/PROTOCOL.md, "The tables of
-- decision"). `Admission`, `Anyone` and `Proven` have the tables as they are printed.
use Rattle.std.specs.Prelude.{◌≡◌, ℕ, List, Bool, ◌==◌, ◌&&◌, ◌||◌, Option, Some, None, if◌then◌else◌, filter}
use Rattle.hdl_name.specs.Name as name
use Rattle.hdl_value.specs.declared.value.Value.{Value}
use Rattle.hdl_value.specs.declared.wire.Wire.{Wire}
use Rattle.hdl_value.specs.declared.wire.Wire.TheVariants.{Profile, HandleNet}
use Rattle.hdl_value.specs.Permission.{is_public, is_kept}
use Rattle.hdl_auth.specs.declared.algorithm.Algorithm.{Algorithm}
use Rattle.hdl_rows.specs.Table.{Table}
use Rattle.hdl_msg.specs.Codes.{response_number}
use Rattle.hdl_msg.specs.declared.codes.ResponseCode.TheVariants.{Success, Error, ServiceReferral}
use Rattle.hdl_msg.specs.Message.{Content, Operation, resolution, create, delete, add, remove, modify, list}
use Rattle.hdl_msg.specs.declared.replies.ReplyContent.{ReplyContent}
use Rattle.hdl_msg.specs.declared.replies.ReplyContent.TheVariants.{Values, Handles, Nothing, Referral, Empty, Site}
use Rattle.hdl_ops.specs.declared.change.Change.{Change}
use Rattle.hdl_ops.specs.declared.change.Change.TheVariants.{Create, Delete, Add, Remove, Modify}
use Rattle.hdl_ops.specs.Admission.{refusal}
use Rattle.hdl_ops.specs.Anyone.{code_for_anyone}
use Rattle.hdl_ops.specs.Proven.{Proof, IsCodeForProof}
use Rattle.hdl_ops.specs.Replies.{fits}
use Rattle.hdl_ops.specs.Requests.{sent_handle, stored_operation}
use Rattle.hdl_ops.specs.TableViews.{TableView, table_view, asks}

-- at what level a request is decided
pub data Level : Type 0 where
  Anyone : Level
  Proven : Proof → Level

-- by its code, what the reply carries, and what changes; a challenge (AuthenticationNeeded) gets its nonce from who sends it
pub record Decision : Type 0 where
  pub code : ℕ
  pub content : ReplyContent
  pub change : Option Change

-- ---- success

abbrev pub may_read : Level → Value → Bool
may_read Anyone v = is_public v
may_read (Proven p) v = is_public v || is_kept v

-- the values that are asked for and that the level may read, by rising index
abbrev pub show : TableView → Content → Level → List Value
show s r level = filter (λ v. asks r.operation v && may_read level v) s.values

abbrev pub carried_by : Operation → TableView → Content → Level → ReplyContent
carried_by (resolution handle indexes types) s r level = Values r.wire handle (show s r level)
carried_by (list handle) s r level = Handles s.names
carried_by _ s r level = Nothing

abbrev pub carried_content : TableView → Content → Level → ReplyContent
carried_content s r level = carried_by r.operation s r level

-- the write that the operation asks for
abbrev pub change_of : Operation → Option Change
change_of (create handle values) = Some (Create handle values)
change_of (delete handle) = Some (Delete handle)
change_of (add handle values) = Some (Add handle values)
change_of (remove handle indexes) = Some (Remove handle indexes)
change_of (modify handle values) = Some (Modify handle values)
change_of _ = None

abbrev pub success : TableView → Content → Level → Decision
success s r level = record { code = response_number Success; content = carried_content s r level; change = change_of (stored_operation r) }

-- ---- the decision

abbrev pub failure : ℕ → ReplyContent → Decision
failure code content = record { code = code; content = content; change = None }

-- by the code of the table of decision; where Success would need too long a message, the code is Error
unfoldable pub decision : Algorithm → TableView → Content → Level → ℕ → Decision
decision a s r level code =
    if code == response_number Success then (if fits a r (carried_content s r level) then success s r level else failure (response_number Error) Empty)
    else failure code Empty

-- the site information that is told on lanes of this layout: none by our profile
abbrev pub told_by : Wire → Option (List ℕ) → Option (List ℕ)
told_by Profile site = None
told_by HandleNet site = site

-- the answer to a question for site information by these octets; where its message would be too long, the code is Error
unfoldable pub site_decision : Algorithm → Content → List ℕ → Decision
site_decision a r octets =
    if fits a r (Site octets) then record { code = response_number Success; content = Site octets; change = None }
    else failure (response_number Error) Empty

unfoldable pub refusal_decision : Content → ℕ → Decision
refusal_decision r code = failure code (if code == response_number ServiceReferral then Referral (name.sent_prefix (sent_handle r.operation)) else Empty)

abbrev pub DecidesBy : Algorithm → Table → Content → Level → Option ℕ → Decision → Type 0
DecidesBy a t r level (Some code) d = d ≡ refusal_decision r code
DecidesBy a t r Anyone None d = d ≡ decision a (table_view t r) r Anyone (code_for_anyone (table_view t r) r)
DecidesBy a t r (Proven p) None d = (code : ℕ) × IsCodeForProof t r p code × (d ≡ decision a (table_view t r) r (Proven p) code)

-- the decision about the request of this algorithm on this table, for a publisher who hosts these prefixes
abbrev pub Decides : (List ℕ → Bool) → Algorithm → Table → Content → Level → Decision → Type 0
Decides hosts a t r level d = DecidesBy a t r level (refusal hosts r) d
