-- Laws over replies.
use Rattle.std.proofs.Common.{◌≡◌, ℕ, List, [], ◌++◌, take, drop, refl, sym, ap, ◌∙◌, append_assoc, arith}
use Rattle.std.specs.Int.{w32, from_be_bytes}
use Rattle.std.proofs.lemmas.List.{length-append}
use Rattle.std.proofs.lemmas.Nat.{from_be_bytes-to_be_bytes_4}
use Rattle.hdl_frame.specs.declared.envelope.Envelope.{Envelope}
use Rattle.hdl_frame.specs.Envelope.{envelope_octets}
use Rattle.hdl_value.specs.Spelling.{string}
use Rattle.hdl_value.proofs.Codecs.{prefix_free}
use Rattle.hdl_msg.specs.declared.replies.Reply.{Reply}
use Rattle.hdl_msg.specs.Message.{header_octets, IsNumber, message_at, message_layout}
use Rattle.hdl_msg.specs.Reply.{reply_body, reply_message, reply_octets, short_reply}
use Rattle.hdl_msg.specs.Laws.{response_code_at, ReplyFits}
use Rattle.hdl_msg.proofs.Codecs.{Message, MessageFits, message_codec}

pub code_at_its_place_lem : (y : Reply) → IsNumber y.header.response_code → response_code_at (reply_octets y) ≡ y.header.response_code
unfolding reply_octets envelope_octets reply_message header_octets
code_at_its_place_lem y fits = from_be_bytes-to_be_bytes_4 y.header.response_code fits

pub code-short_reply : (code : ℕ) (e : Envelope) → IsNumber code → response_code_at (short_reply code e) ≡ code
unfolding short_reply envelope_octets header_octets
code-short_reply code e fits = from_be_bytes-to_be_bytes_4 code fits

session_of : (y : Reply) → IsNumber y.session → from_be_bytes w32 (take 4 (drop 4 (reply_octets y))) ≡ y.session
unfolding reply_octets envelope_octets
session_of y fits = from_be_bytes-to_be_bytes_4 y.session fits

request_of : (y : Reply) → IsNumber y.request → from_be_bytes w32 (take 4 (drop 8 (reply_octets y))) ≡ y.request
unfolding reply_octets envelope_octets
request_of y fits = from_be_bytes-to_be_bytes_4 y.request fits

message_of : (y : Reply) → drop 20 (reply_octets y) ≡ reply_message y
unfolding reply_octets envelope_octets
message_of y = refl

parts : Reply → Message
parts y = ((y.header, reply_body y), [])

spelt : (y : Reply) → reply_message y ≡ message_layout.write (parts y)
unfolding reply_message reply_body parts
spelt y = sym (append_assoc (header_octets y.header) (string (reply_body y)) (string []))

parts_fit : (y : Reply) → ReplyFits y → MessageFits (parts y)
unfolding reply_message reply_body parts header_octets
parts_fit y f = ((f.header, omega (arith, f.message, length-append (reply_body y) (string []))), omega arith)

pub one_reply_lem : (y z : Reply) → ReplyFits y → ReplyFits z → reply_octets y ≡ reply_octets z → (y.session ≡ z.session) × (y.request ≡ z.request) × (y.header ≡ z.header) × (reply_body y ≡ reply_body z)
unfolding parts
one_reply_lem y z f g e =
    let at : message_layout.write (parts y) ++ [] ≡ message_layout.write (parts z) ++ [] = ap (λ (s : List ℕ). s ++ []) (sym (spelt y) ∙ sym (message_of y) ∙ ap (drop 20) e ∙ message_of z ∙ spelt z) in
    let same = (prefix_free message_at message_layout.write MessageFits message_codec (parts y) (parts z) [] [] (parts_fit y f) (parts_fit z g) at).0 in (
      sym (session_of y f.session) ∙ ap (λ (s : List ℕ). from_be_bytes w32 (take 4 (drop 4 s))) e ∙ session_of z g.session,
      sym (request_of y f.request) ∙ ap (λ (s : List ℕ). from_be_bytes w32 (take 4 (drop 8 s))) e ∙ request_of z g.request,
      ap (λ (m : Message). m.0.0) same,
      ap (λ (m : Message). m.0.1) same,
    )
