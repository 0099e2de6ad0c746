-- A law over replies.
use Rattle.std.specs.Prelude.{◌≡◌, ℕ, List, [], ◌++◌}
use Rattle.hdl_value.specs.declared.wire.Wire.{Wire}
use Rattle.hdl_msg.specs.Reply.{ReplyParts, SpellsReply}

-- a reply's message that begins another's is that one
abbrev pub NoReplyBeginsAnother : Type 0
NoReplyBeginsAnother = (wire : Wire) (octets rest more : List ℕ) (p q : ReplyParts) → SpellsReply wire octets p → SpellsReply wire more q → more ≡ octets ++ rest → (p ≡ q) × (rest ≡ [])
