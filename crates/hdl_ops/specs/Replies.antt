-- The reply to a request: its digest where the request asks for it, and its content.
use Rattle.std.specs.Prelude.{ℕ, ◌+◌, List, Bool, Option, Some, None, if◌then◌else◌, length, nat_le}
use Rattle.hdl_auth.specs.declared.algorithm.Algorithm.{Algorithm}
use Rattle.hdl_auth.specs.declared.algorithm.Digest.{Digest}
use Rattle.hdl_auth.specs.Digest as auth
use Rattle.hdl_value.specs.HandleNet.{second_of}
use Rattle.hdl_value.specs.declared.wire.Wire.{Wire}
use Rattle.hdl_value.specs.declared.wire.Wire.TheVariants.{Profile, HandleNet}
use Rattle.hdl_msg.specs.Codes.{response_number}
use Rattle.hdl_msg.specs.declared.codes.ResponseCode.TheVariants.{AuthenticationNeeded}
use Rattle.hdl_msg.specs.Message.{Content, signed_octets}
use Rattle.hdl_msg.specs.declared.fields.Header.{Header}
use Rattle.hdl_msg.specs.declared.replies.Reply.{Reply}
use Rattle.hdl_msg.specs.declared.replies.ReplyContent.{ReplyContent}
use Rattle.hdl_msg.specs.declared.replies.ReplyContent.TheVariants.{Nonce}
use Rattle.hdl_limits.specs.declared.TheConstants.{MESSAGE_MAX}
use Rattle.hdl_msg.specs.Reply.{answer_header, reply_message}
use Rattle.hdl_ops.specs.declared.rendering.TheConstants.{REPLY_LIFE_MILLIS}
use Rattle.hdl_ops.specs.Requests.{wants_digest}

-- the digest of a request by its algorithm: that of its header and body
abbrev pub digest_of : Algorithm → Content → Digest
digest_of a r = auth.digest_of a (signed_octets r)

abbrev pub asked_digest : Algorithm → Content → Option Digest
asked_digest a r = if wants_digest r then Some (digest_of a r) else None

-- The ExpirationTime of a reply of this moment. By the layout of Handle.Net software it is the second at which the reply's life ends; by our profile it is 0.
abbrev pub expiration : Wire → ℕ → ℕ
expiration Profile moment = 0
expiration HandleNet moment = second_of (moment + REPLY_LIFE_MILLIS)

-- the header of a reply of this moment to the request
abbrev pub reply_header : ℕ → Content → ℕ → Header
reply_header moment r code = record (answer_header r.header code) { expiration = expiration r.wire moment }

-- the reply of this moment with this session, request number and code
unfoldable pub reply_to : Algorithm → ℕ → ℕ → ℕ → Content → ℕ → ReplyContent → Reply
reply_to a moment session number r code content = record {
  session = session;
  request = number;
  header = reply_header moment r code;
  digest = asked_digest a r;
  content = content;
}

-- the challenge that is sent in place of an answer: the request's digest, and a nonce
unfoldable pub challenge_to : Algorithm → ℕ → ℕ → ℕ → Content → List ℕ → Reply
challenge_to a moment session number r nonce = record {
  session = session;
  request = number;
  header = reply_header moment r (response_number AuthenticationNeeded);
  digest = Some (digest_of a r);
  content = Nonce nonce;
}

-- the message of a reply with this content has at most 65,536 octets, whatever its moment, session, request number and code
unfoldable pub fits : Algorithm → Content → ReplyContent → Bool
fits a r content = nat_le (length (reply_message (reply_to a 0 0 0 r 0 content))) MESSAGE_MAX
