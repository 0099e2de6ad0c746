-- Reading of messages, from the readers of their fields: requests, and replies behind them.
use Rattle.std.specs.Prelude.{ℕ, List, Option, Some, None, length, codes, bytes_eq, Bool, true, false, ◌==◌, if◌then◌else◌}
use Rattle.hdl_value.specs.declared.value.Value.{Value}
use Rattle.hdl_value.specs.Reading.{◌>>=◌, whole_of, octet_at, string_at, octets_at}
use Rattle.hdl_value.specs.declared.wire.Wire.{Wire}
use Rattle.hdl_msg.specs.declared.fields.Header.{Header}
use Rattle.hdl_msg.specs.declared.codes.OpCode.{OpCode}
use Rattle.hdl_msg.specs.declared.codes.OpCode.TheVariants.{Resolution, GetSiteInfo, CreateHandle, DeleteHandle, AddValue, RemoveValue, ModifyValue, ListHandles, ChallengeResponse}
use Rattle.hdl_msg.specs.Codes.{op_code_of}
use Rattle.hdl_msg.specs.Message.{Operation, resolution, site_info, create, delete, add, remove, modify, list, response, other, Content, strings_at, resolution_layout, values_layout, removal_layout, response_layout, message_at}
use Rattle.hdl_auth.specs.declared.algorithm.Algorithm.TheVariants as algorithm
use Rattle.hdl_auth.specs.declared.algorithm.Digest.{Digest}
use Rattle.hdl_auth.specs.declared.algorithm.Digest.TheVariants as digest
use Rattle.hdl_auth.specs.Digest.{octet_of, size_of}
use Rattle.hdl_msg.specs.declared.replies.ReplyContent.{ReplyContent}
use Rattle.hdl_msg.specs.declared.replies.ReplyContent.TheVariants.{Values, Handles, Nothing, Referral, Nonce, Empty, Site}
use Rattle.hdl_msg.specs.declared.reply_view.ReplyForm.{ReplyForm}
use Rattle.hdl_msg.specs.declared.reply_view.ReplyForm.TheVariants as form
use Rattle.hdl_msg.specs.Reply.{ReplyParts, announces_digest, announced_form, referral_layout}

-- ---- bodies

-- the body of a resolution
unfoldable pub resolution_in : List ℕ → Option Operation
resolution_in octets = do
  x ← whole_of resolution_layout.read octets
  Some (resolution x.0 x.1.0 x.1.1)

-- the body of a write of values: a handle and the values
unfoldable pub with_values_in : Wire → List ℕ → Option (List ℕ × List Value)
with_values_in wire octets = whole_of (values_layout wire).read octets

unfoldable pub remove_in : List ℕ → Option Operation
remove_in octets = do
  x ← whole_of removal_layout.read octets
  Some (remove x.0 x.1)

unfoldable pub response_in : List ℕ → Option Operation
response_in octets = do
  x ← whole_of response_layout.read octets
  Some (response x.0 x.1.0 x.1.1.0 x.1.1.1)

-- the body of the operation with this code, all of the octets; of one that isn't used any octets
unfoldable pub operation_in : Wire → Option OpCode → List ℕ → Option Operation
operation_in wire (Some Resolution) octets = resolution_in octets
operation_in wire (Some GetSiteInfo) octets = Some (site_info octets)
operation_in wire (Some CreateHandle) octets = with_values_in wire octets >>= λ x. Some (create x.0 x.1)
operation_in wire (Some DeleteHandle) octets = whole_of string_at octets >>= λ x. Some (delete x)
operation_in wire (Some AddValue) octets = with_values_in wire octets >>= λ x. Some (add x.0 x.1)
operation_in wire (Some RemoveValue) octets = remove_in octets
operation_in wire (Some ModifyValue) octets = with_values_in wire octets >>= λ x. Some (modify x.0 x.1)
operation_in wire (Some ListHandles) octets = whole_of string_at octets >>= λ x. Some (list x)
operation_in wire (Some ChallengeResponse) octets = response_in octets
operation_in wire None octets = Some (other octets)

-- ---- messages

-- the request that the octets are
unfoldable pub request_at : Wire → List ℕ → Option Content
request_at wire octets = do
  m ← whole_of message_at octets
  operation ← operation_in wire (op_code_of m.0.0.op_code) m.0.1
  Some (record { wire = wire; header = m.0.0; operation = operation })

-- ---- replies

-- ---- digests

-- so many octets, as a digest
abbrev pub sized_digest_at : (List ℕ → Digest) → ℕ → List ℕ → Option (Digest × List ℕ)
sized_digest_at make n octets = octets_at n octets >>= λ x. Some (make x.0, x.1)

-- as many octets as digests have of the hash function that this octet names
abbrev pub digest_behind : ℕ → List ℕ → Option (Digest × List ℕ)
digest_behind first octets =
    if first == octet_of algorithm.Sha1 then sized_digest_at digest.Sha1 (size_of algorithm.Sha1) octets
    else if first == octet_of algorithm.Sha256 then sized_digest_at digest.Sha256 (size_of algorithm.Sha256) octets
    else None

-- the octet of a hash function, and a digest
unfoldable pub digest_at : List ℕ → Option (Digest × List ℕ)
digest_at octets = do
  first ← octet_at octets
  digest_behind first.0 first.1

-- a digest where one is announced
unfoldable pub announced_digest_at : Bool → List ℕ → Option (Option Digest × List ℕ)
announced_digest_at false octets = Some (None, octets)
announced_digest_at true octets = do
  x ← digest_at octets
  Some (Some x.0, x.1)

-- ---- contents

-- the prefix in the administrative handle that a referral names
unfoldable pub prefix_in : List ℕ → Option (List ℕ)
prefix_in octets = do
  x ← octets_at 5 octets
  if bytes_eq x.0 (codes "0.NA/") then Some x.1 else None

unfoldable pub shown_values_in : Wire → List ℕ → Option ReplyContent
shown_values_in wire octets = do
  x ← whole_of (values_layout wire).read octets
  Some (Values wire x.0 x.1)

unfoldable pub handles_in : List ℕ → Option ReplyContent
handles_in octets = do
  x ← whole_of strings_at octets
  Some (Handles x)

unfoldable pub nothing_in : List ℕ → Option ReplyContent
nothing_in octets = if length octets == 0 then Some Nothing else None

unfoldable pub referral_in : List ℕ → Option ReplyContent
referral_in octets = do
  x ← whole_of referral_layout.read octets
  if x.1 == 0 then (prefix_in x.0 >>= λ prefix. Some (Referral prefix)) else None

unfoldable pub nonce_in : List ℕ → Option ReplyContent
nonce_in octets = do
  x ← whole_of string_at octets
  nonce ← whole_of (octets_at 16) x
  Some (Nonce nonce)

unfoldable pub empty_in : List ℕ → Option ReplyContent
empty_in octets = do
  x ← whole_of string_at octets
  if length x == 0 then Some Empty else None

-- the content of this form, all of the octets
unfoldable pub content_in : Wire → ReplyForm → List ℕ → Option ReplyContent
content_in wire form.Values octets = shown_values_in wire octets
content_in wire form.Handles octets = handles_in octets
content_in wire form.Nothing octets = nothing_in octets
content_in wire form.Referral octets = referral_in octets
content_in wire form.Nonce octets = nonce_in octets
content_in wire form.Empty octets = empty_in octets
content_in wire form.Site octets = Some (Site octets)

-- ---- messages

-- the body behind this header, all of the octets
unfoldable pub reply_body_in : Wire → Header → List ℕ → Option ReplyParts
reply_body_in wire h octets = do
  x ← announced_digest_at (announces_digest h) octets
  content ← content_in wire (announced_form h) x.1
  Some (record { header = h; digest = x.0; content = content })

-- the reply whose message the octets are; its credential is empty
unfoldable pub reply_at : Wire → List ℕ → Option ReplyParts
reply_at wire octets = do
  m ← whole_of message_at octets
  if length m.1 == 0 then reply_body_in wire m.0.0 m.0.1 else None
