-- No reply begins another.
use Rattle.std.proofs.Common.{◌≡◌, ℕ, List, [], ◌++◌, sym, ap, ◌∙◌, append_assoc, arith}
use Rattle.std.proofs.lemmas.List.{append-nil}
use Rattle.hdl_value.specs.Spelling.{string}
use Rattle.hdl_value.specs.declared.wire.Wire.{Wire}
use Rattle.hdl_value.proofs.FieldLaws.{some_is}
use Rattle.hdl_value.proofs.Codecs.{prefix_free}
use Rattle.hdl_msg.specs.Message.{header_octets, message_at, message_layout}
use Rattle.hdl_msg.specs.Reading.{reply_at}
use Rattle.hdl_msg.specs.Reply.{ReplyParts, parts_body, parts_message, SpellsReply}
use Rattle.hdl_msg.proofs.Codecs.{Message, MessageFits, message_codec}
use Rattle.hdl_msg.proofs.ReplyReadings.{reply_again}

-- header, body and an empty credential
abbrev message_of : ReplyParts → Message
message_of p = ((p.header, parts_body p), [])

by_layout : (p : ReplyParts) → parts_message p ≡ message_layout.write (message_of p)
by_layout p = sym (append_assoc (header_octets p.header) (string (parts_body p)) (string []))

message_fits : (wire : Wire) (octets : List ℕ) (p : ReplyParts) → SpellsReply wire octets p → MessageFits (message_of p)
message_fits wire octets p s = ((s.fits.header, s.body_fits), omega arith)

pub none_begins_another_reply : (wire : Wire) (octets rest more : List ℕ) (p q : ReplyParts) → SpellsReply wire octets p → SpellsReply wire more q → more ≡ octets ++ rest → (p ≡ q) × (rest ≡ [])
none_begins_another_reply wire octets rest more p q s u e =
    let first : octets ≡ message_layout.write (message_of p) = s.spelt ∙ by_layout p in
    let second : more ≡ message_layout.write (message_of q) = u.spelt ∙ by_layout q in
    let joined : message_layout.write (message_of p) ++ rest ≡ message_layout.write (message_of q) ++ [] = ap (λ (x : List ℕ). x ++ rest) (sym first) ∙ sym e ∙ second ∙ sym (append-nil _) in
    let same = prefix_free message_at message_layout.write MessageFits message_codec (message_of p) (message_of q) rest [] (message_fits wire octets p s) (message_fits wire more q u) joined in
    let whole : octets ≡ more = first ∙ ap message_layout.write same.0 ∙ sym second in
    (some_is p q (sym (reply_again wire octets p s) ∙ (ap (λ (x : List ℕ). reply_at wire x) whole ∙ reply_again wire more q u)), same.1)
