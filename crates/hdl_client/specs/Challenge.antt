-- What answers a challenge (docs/PROTOCOL.md, "Challenge and response").
use Rattle.std.specs.Prelude.{◌≡◌, ◌≢◌, ℕ, ◌-◌, List, length, take, codes, Some}
use Rattle.hdl_auth.specs.declared.algorithm.Digest.{Digest}
use Rattle.hdl_auth.specs.Digest.{algorithm_of, digest_of}
use Rattle.hdl_auth.specs.Mac.{right_response}
use Rattle.hdl_value.specs.declared.wire.Wire.TheVariants.{Profile}
use Rattle.hdl_msg.specs.declared.fields.Header.{Header}
use Rattle.hdl_msg.specs.declared.request_body.RequestBody.{RequestBody}
use Rattle.hdl_msg.specs.declared.request_body.RequestBody.TheVariants.{Response}
use Rattle.hdl_msg.specs.declared.replies.ReplyContent.TheVariants.{Nonce}
use Rattle.hdl_msg.specs.RequestBody.{request_message}
use Rattle.hdl_msg.specs.Reply.{ReplyParts}
use Rattle.hdl_client.specs.declared.challenge.Key.{Key}

-- a header without flags
abbrev pub plain_header : Header
plain_header = record { op_code = 0; response_code = 0; op_flag = 0; serial = 0; recursion = 0; reserved = 0; expiration = 0 }

-- the octets of a request that its digest is made of: all but its empty credential
abbrev pub signed_part : List ℕ → List ℕ
signed_part message = take (length message - 4) message

-- the request that answers a challenge by a key
abbrev pub response_of : Key → List ℕ → Digest → RequestBody
response_of key nonce digest = Response (codes "HS_SECKEY") key.handle key.index (right_response key.secret nonce digest)

-- A reply is a challenge: it has a nonce and a digest.
abbrev pub Challenges : ReplyParts → List ℕ → Digest → Type 0
Challenges reply nonce digest = (reply.content ≡ Nonce nonce) × (reply.digest ≡ Some digest)

-- The reply challenges another request than the one that was asked.
abbrev pub IsOtherChallenge : List ℕ → ReplyParts → Type 0
IsOtherChallenge asked reply = (nonce : List ℕ) × (digest : Digest) × Challenges reply nonce digest × (digest ≢ digest_of (algorithm_of digest) (signed_part asked))

-- The message answers this reply, which challenges just the request that was asked. A response has no values, so it is the same by either layout.
pub record Answers (key : Key) (asked : List ℕ) (reply : ReplyParts) (answer : List ℕ) : Type 0 where
  pub nonce : List ℕ
  pub digest : Digest
  pub challenge : Challenges reply nonce digest
  pub own : digest ≡ digest_of (algorithm_of digest) (signed_part asked)
  pub spelt : answer ≡ request_message Profile plain_header (response_of key nonce digest)
