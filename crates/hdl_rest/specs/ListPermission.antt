-- Whether the handles of a prefix may be listed.
use Rattle.std.specs.Prelude.{◌≡◌, ◌⊎◌, ℕ, Bool, true, false, List, [], ◌∷◌, Option, IsTrue}
use Rattle.hdl_client.specs.Reply.{Delivery}
use Rattle.hdl_client.specs.declared.challenge.Key.{Key}
use Rattle.hdl_msg.specs.declared.codes.ResponseCode.TheVariants.{Error}
use Rattle.hdl_msg.specs.declared.replies.ReplyContent.{ReplyContent}
use Rattle.hdl_msg.specs.declared.replies.ReplyContent.TheVariants.{Handles}
use Rattle.hdl_msg.specs.Codes.{response_number}
use Rattle.hdl_msg.specs.Message.{list}
use Rattle.hdl_msg.specs.Reply.{ReplyParts}
use Rattle.hdl_rest.specs.Exchange.{Exchange, Asks, Spells}

abbrev pub are_handles : ReplyContent → Bool
are_handles (Handles handles) = true
are_handles _ = false

-- a reply gives handles; or it says that they are too many for a reply
abbrev pub GivesList : ReplyParts → Type 0
GivesList parts = IsTrue (are_handles parts.content) ⊎ (parts.header.response_code ≡ response_number Error)

abbrev pub Gives : Option Delivery → Type 0
Gives reply = (parts : ReplyParts) × Spells reply parts × GivesList parts

-- at most the handles of this prefix were asked for with the key; and if it may list them, the reply gives them
abbrev pub TriesList : Key → List ℕ → Bool → List Exchange → Type 0
TriesList key handle may xs =
    ((xs ≡ []) × (may ≡ false)) ⊎ ((x : Exchange) × (xs ≡ x ∷ []) × Asks key (list handle) x × (IsTrue may → Gives x.reply))
