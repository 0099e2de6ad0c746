-- A request that was asked with a key, and what came of it.
use Rattle.std.specs.Prelude.{◌≡◌, ◌≢◌, ◌⊎◌, ℕ, Option, Some, None, Result, Ok, Err}
use Rattle.hdl_client.specs.Reply.{Delivery}
use Rattle.hdl_client.specs.declared.challenge.Key.{Key}
use Rattle.hdl_msg.specs.declared.codes.ResponseCode.TheVariants.{Success}
use Rattle.hdl_msg.specs.Codes.{response_number}
use Rattle.hdl_msg.specs.Message.{Operation}
use Rattle.hdl_msg.specs.Reply.{ReplyParts, SpellsReply}

-- a request, the key that it was asked with, and the reply, if one came
pub record Exchange : Type 0 where
  pub operation : Operation
  pub key : Key
  pub reply : Option Delivery

-- the reply that a call gave
abbrev pub reply_of : {E : Type 0} → Result Delivery E → Option Delivery
reply_of (Ok came) = Some came
reply_of (Err e) = None

-- the request, the key and the reply together
abbrev pub exchange : Operation → Key → Option Delivery → Exchange
exchange operation key reply = record { operation = operation; key = key; reply = reply }

-- it is this request with this key
abbrev pub Asks : Key → Operation → Exchange → Type 0
Asks key operation x = (x.operation ≡ operation) × (x.key ≡ key)

-- the reply says this
abbrev pub Spells : Option Delivery → ReplyParts → Type 0
Spells None parts = ⊥
Spells (Some came) parts = SpellsReply came.wire came.message parts

-- the reply has this code
abbrev pub Says : ℕ → Option Delivery → Type 0
Says code reply = (parts : ReplyParts) × Spells reply parts × (parts.header.response_code ≡ code)

-- the request was done: a reply says so
abbrev pub IsDone : Exchange → Type 0
IsDone x = Says (response_number Success) x.reply

-- it wasn't: no reply came, or one of another code
abbrev pub IsRefused : Option Delivery → Type 0
IsRefused reply = (reply ≡ None) ⊎ ((code : ℕ) × Says code reply × (code ≢ response_number Success))

abbrev pub IsUndone : Exchange → Type 0
IsUndone x = IsRefused x.reply
