-- What stands at an index just now.
use Rattle.std.specs.Prelude.{◌≡◌, ◌⊎◌, ℕ, ◌==◌, if◌then◌else◌, List, [], ◌∷◌, Option, Some, None, Result, Ok, Err, IfSome}
use Rattle.hdl_client.specs.Reply.{Delivery}
use Rattle.hdl_client.specs.declared.challenge.Key.{Key}
use Rattle.hdl_value.specs.declared.value.Value.{Value}
use Rattle.hdl_value.specs.declared.wire.Wire.{Wire}
use Rattle.hdl_msg.specs.declared.codes.ResponseCode.TheVariants.{ValueNotFound}
use Rattle.hdl_msg.specs.declared.replies.ReplyContent.TheVariants.{Values}
use Rattle.hdl_msg.specs.Codes.{response_number}
use Rattle.hdl_msg.specs.Message.{resolution}
use Rattle.hdl_msg.specs.Reply.{ReplyParts}
use Rattle.hdl_rest.specs.Exchange.{Exchange, Asks, Spells}

-- the first of these values that has this index
abbrev pub value_at : ℕ → List Value → Option Value
value_at index [] = None
value_at index (value ∷ values) = if value.index == index then Some value else value_at index values

-- a reply shows the handle's values, and this is the one at the index, if one is; or it says that there are none
abbrev pub ShowsAt : List ℕ → ℕ → Option Value → ReplyParts → Type 0
ShowsAt handle index there parts =
    ((wire : Wire) × (values : List Value) × (parts.content ≡ Values wire handle values) × (there ≡ value_at index values))
    ⊎ ((parts.header.response_code ≡ response_number ValueNotFound) × (there ≡ None))

abbrev pub Presents : List ℕ → ℕ → Option Value → Option Delivery → Type 0
Presents handle index there reply = (parts : ReplyParts) × Spells reply parts × ShowsAt handle index there parts

-- at most the value of this index was asked for; and if it is said what is there, the reply shows it
abbrev pub TriesValue : Key → List ℕ → ℕ → Option (Option Value) → List Exchange → Type 0
TriesValue key handle index said xs =
    ((xs ≡ []) × (said ≡ None))
    ⊎ ((x : Exchange) × (xs ≡ x ∷ []) × Asks key (resolution handle (index ∷ []) []) x × IfSome said (λ there. Presents handle index there x.reply))

-- what is said of the value
abbrev pub said_in : {A E F : Type 0} → Result (Result A E) F → Option A
said_in (Ok (Ok there)) = Some there
said_in (Ok (Err e)) = None
said_in (Err e) = None
