-- A request that is asked: what goes and comes until its reply.
use Rattle.std.specs.Prelude.{◌≡◌, ◌⊎◌, ℕ, List, Option, Some, IfSome}
use Rattle.hdl_auth.specs.declared.algorithm.Digest.{Digest}
use Rattle.hdl_value.specs.declared.wire.Wire.{Wire}
use Rattle.hdl_msg.specs.Reply.{ReplyParts, SpellsReply}
use Rattle.hdl_client.specs.declared.challenge.Key.{Key}
use Rattle.hdl_client.specs.declared.transport.Transport.{Ghosts}
use Rattle.hdl_client.specs.Challenge.{Challenges, Answers}
use Rattle.hdl_client.specs.Exchange.{next_number, Exchanged}
use Rattle.hdl_client.specs.Reply.{Delivery}

-- a reply without a challenge
abbrev pub IsUnchallenged : ReplyParts → Type 0
IsUnchallenged reply = (nonce : List ℕ) (digest : Digest) → ¬ (Challenges reply nonce digest)

-- what came is no challenge, or no key is there to answer it
abbrev pub IsLast : Option Key → Delivery → Type 0
IsLast key came = IfSome key (λ _. (reply : ReplyParts) × SpellsReply came.wire came.message reply × IsUnchallenged reply)

-- The reply is the one to the right response to this challenge of the request with this message, which was sent under the challenge's session.
pub record IsProven {T : Type 0} (g : Ghosts T) (key : Key) (wire : Wire) (number : ℕ) (message : List ℕ) (before after : T) (challenge reply : Delivery) : Type 0 where
  pub parts : ReplyParts
  pub read : SpellsReply challenge.wire challenge.message parts
  pub answer : List ℕ
  pub right : Answers key message parts answer
  pub answered : Exchanged g wire challenge.envelope.session (next_number number) answer before after reply

-- what came first is the reply, or a challenge that the key answered, and nothing else went or came
abbrev pub IsBehind : {T : Type 0} → Ghosts T → Option Key → Wire → ℕ → List ℕ → T → T → Delivery → Delivery → Type 0
IsBehind g key wire number message before after first reply =
    (IsLast key first × (reply ≡ first) × (after ≡ before))
    ⊎ ((by : Key) × (key ≡ Some by) × IsProven g by wire number message before after first reply)

-- The request with this message was sent under this number and session 0, and the reply came, at once or behind a challenge.
pub record IsAsked {T : Type 0} (g : Ghosts T) (key : Option Key) (wire : Wire) (number : ℕ) (message : List ℕ) (before after : T) (reply : Delivery) : Type 0 where
  pub between : T
  pub first : Delivery
  pub asked : Exchanged g wire 0 number message before between first
  pub behind : IsBehind g key wire number message between after first reply
