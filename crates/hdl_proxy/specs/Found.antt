-- What is found of a handle in what was answered.
use Rattle.std.specs.Prelude.{◌≡◌, ◌⊎◌, ⊤, ℕ, List, All, Option, Some, None, Result, Ok, Err, filter}
use Rattle.std.specs.Global.{Vec}
use Rattle.std.specs.Borrow.{Bor}
use Rattle.hdl_value.specs.declared.value.Value.{Value}
use Rattle.hdl_value.specs.Fault.{IsSound}
use Rattle.hdl_value.specs.declared.wire.Wire.{Wire}
use Rattle.hdl_value.specs.declared.wire.Wire.TheVariants.{Profile}
use Rattle.hdl_msg.specs.Reply.{ReplyParts, SpellsReply}
use Rattle.hdl_msg.specs.declared.replies.ReplyContent.{ReplyContent}
use Rattle.hdl_msg.specs.declared.replies.ReplyContent.TheVariants as content
use Rattle.hdl_msg.specs.Codes.{response_number}
use Rattle.hdl_msg.specs.declared.codes.ResponseCode.TheVariants.{ServiceReferral, ServerBusy}
use Rattle.hdl_proxy.specs.Choice.{is_shown}
use Rattle.hdl_proxy.specs.declared.found.Found.{Found}
use Rattle.hdl_proxy.specs.declared.found.Found.TheVariants.{Values, Refused, Nothing}
use Rattle.hdl_proxy.specs.declared.resolver.NoAnswer.{NoAnswer}
use Rattle.hdl_proxy.specs.declared.resolver.NoAnswer.TheVariants.{Unreachable, Elsewhere, Crowded, Memory}

-- sound values of this handle, by whichever layout they stand
abbrev pub AreValuesOf : List ℕ → ReplyContent → List Value → Type 0
AreValuesOf handle said values = ((wire : Wire) × (said ≡ content.Values wire handle values)) × All IsSound values

-- of sound values just those that are shown, and none where one of them is unsound
abbrev pub AreShown : List Value → Option (Vec Value) → Type 0
AreShown values None = ¬ (All IsSound values)
AreShown values (Some shown) = All IsSound values × (shown.items ≡ filter is_shown values)

-- no values: the prefix is hosted elsewhere, or the code says it all
abbrev pub IsRefusal : ReplyContent → Type 0
IsRefusal (content.Values wire handle values) = ⊥
IsRefusal (content.Handles handles) = ⊥
IsRefusal content.Nothing = ⊥
IsRefusal (content.Referral prefix) = ⊤
IsRefusal (content.Nonce nonce) = ⊥
IsRefusal content.Empty = ⊤
IsRefusal (content.Site octets) = ⊥

-- what is found in a reply with this code and content: of the values of this handle just those that are shown; the code
-- where it has none; and nothing where it is another answer, or a value is unsound
abbrev pub IsSaidBy : List ℕ → ℕ → ReplyContent → Found → Type 0
IsSaidBy handle code said (Values shown) =
    (values : List Value) × (AreValuesOf handle said values × (shown.items ≡ filter is_shown values))
IsSaidBy handle code said (Refused refused) = IsRefusal said × (refused ≡ code)
IsSaidBy handle code said Nothing = ((values : List Value) → ¬ (AreValuesOf handle said values)) × ¬ (IsRefusal said)

-- what is found in a message: what the reply says that it spells by our profile's layout, and where it spells none nothing
abbrev pub IsFoundIn : List ℕ → List ℕ → Found → Type 0
IsFoundIn handle message found =
    ((reply : ReplyParts) × (SpellsReply Profile message reply × IsSaidBy handle reply.header.response_code reply.content found))
    ⊎ (((reply : ReplyParts) → ¬ (SpellsReply Profile message reply)) × (found ≡ Nothing))

-- what is found in what a resolver gave: nothing where nobody answered, and the codes of a referral and of a busy server where that is all
abbrev pub IsFoundOf : List ℕ → Result (Bor (List ℕ)) NoAnswer → Found → Type 0
IsFoundOf handle (Ok message) found = IsFoundIn handle message.now found
IsFoundOf handle (Err Unreachable) found = found ≡ Nothing
IsFoundOf handle (Err Elsewhere) found = found ≡ Refused (response_number ServiceReferral)
IsFoundOf handle (Err Crowded) found = found ≡ Refused (response_number ServerBusy)
IsFoundOf handle (Err Memory) found = ⊥
