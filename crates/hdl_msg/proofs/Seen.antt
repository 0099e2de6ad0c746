-- What is written of values, contents and replies is what is written of them as their reader sees them.
use Rattle.std.proofs.Common.{◌≡◌, ℕ, List, [], ◌∷◌, ◌++◌, length, map, refl, sym, ap, ◌∙◌}
use Rattle.std.specs.List.{flat_map, AllByRecursion}
use Rattle.std.specs.Int.{w32, to_be_bytes}
use Rattle.std.proofs.lemmas.List.{length-map}
use Rattle.std.proofs.lemmas.List.Concat.{flat_map-cons}
use Rattle.hdl_frame.specs.Envelope.{envelope_octets, message_envelope}
use Rattle.hdl_value.specs.declared.value.Value.{Value}
use Rattle.hdl_value.specs.declared.wire.Wire.{Wire}
use Rattle.hdl_value.specs.Spelling.{string, Fits}
use Rattle.hdl_value.specs.Wires.{wire_spelling, WireFits, wire_seen}
use Rattle.hdl_value.proofs.HandleNet.{same_by_wire, seen_fits}
use Rattle.hdl_msg.specs.declared.replies.Reply.{Reply}
use Rattle.hdl_msg.specs.declared.replies.ReplyContent.{ReplyContent}
use Rattle.hdl_msg.specs.declared.replies.ReplyContent.TheVariants.{Values, Handles, Nothing, Referral, Nonce, Empty, Site}
use Rattle.hdl_msg.specs.Message.{Operation, resolution, site_info, create, delete, add, remove, modify, list, response, other, body, count_prefixed, header_octets}
use Rattle.hdl_msg.specs.Reply.{content_octets, digest_octets, content_read, form_of, wire_of_content, IsByWire, reply_body, reply_message, reply_octets}
use Rattle.hdl_msg.specs.RequestBody.{operation_read}

same_texts : (wire : Wire) (vs : List Value) → flat_map (wire_spelling wire) (map (wire_seen wire) vs) ≡ flat_map (wire_spelling wire) vs
same_texts wire [] = refl
same_texts wire (v ∷ vs) =
    flat_map-cons (wire_spelling wire) (wire_seen wire v) (map (wire_seen wire) vs)
    ∙ ap (λ (x : List ℕ). x ++ flat_map (wire_spelling wire) (map (wire_seen wire) vs)) (same_by_wire wire v)
    ∙ ap (λ (x : List ℕ). wire_spelling wire v ++ x) (same_texts wire vs)
    ∙ sym (flat_map-cons (wire_spelling wire) v vs)

pub same_values : (wire : Wire) (vs : List Value) → count_prefixed (wire_spelling wire) (map (wire_seen wire) vs) ≡ count_prefixed (wire_spelling wire) vs
same_values wire vs =
    ap (λ (n : ℕ). to_be_bytes w32 n ++ flat_map (wire_spelling wire) (map (wire_seen wire) vs)) (length-map vs (wire_seen wire))
    ∙ ap (λ (x : List ℕ). to_be_bytes w32 (length vs) ++ x) (same_texts wire vs)

pub all_seen : (wire : Wire) (vs : List Value) → AllByRecursion Fits vs → AllByRecursion (WireFits wire) (map (wire_seen wire) vs)
all_seen wire [] fits = tt
all_seen wire (v ∷ vs) fits = (seen_fits wire v fits.0, all_seen wire vs fits.1)

-- ---- requests

with_values : (wire : Wire) (handle : List ℕ) (vs : List Value) → string handle ++ count_prefixed (wire_spelling wire) (map (wire_seen wire) vs) ≡ string handle ++ count_prefixed (wire_spelling wire) vs
with_values wire handle vs = ap (λ (x : List ℕ). string handle ++ x) (same_values wire vs)

pub same_body : (wire : Wire) (o : Operation) → body wire (operation_read wire o) ≡ body wire o
same_body wire (resolution handle indexes types) = refl
same_body wire (site_info octets) = refl
same_body wire (create handle values) = with_values wire handle values
same_body wire (delete handle) = refl
same_body wire (add handle values) = with_values wire handle values
same_body wire (remove handle indexes) = refl
same_body wire (modify handle values) = with_values wire handle values
same_body wire (list handle) = refl
same_body wire (response kind handle index answer) = refl
same_body wire (other octets) = refl

-- ---- replies

pub same_content : (content : ReplyContent) → content_octets (content_read content) ≡ content_octets content
same_content (Values wire handle values) = with_values wire handle values
same_content (Handles handles) = refl
same_content Nothing = refl
same_content (Referral prefix) = refl
same_content (Nonce nonce) = refl
same_content Empty = refl
same_content (Site octets) = refl

pub same_form : (content : ReplyContent) → form_of (content_read content) ≡ form_of content
same_form (Values wire handle values) = refl
same_form (Handles handles) = refl
same_form Nothing = refl
same_form (Referral prefix) = refl
same_form (Nonce nonce) = refl
same_form Empty = refl
same_form (Site octets) = refl

pub same_wire : (content : ReplyContent) → wire_of_content (content_read content) ≡ wire_of_content content
same_wire (Values wire handle values) = refl
same_wire (Handles handles) = refl
same_wire Nothing = refl
same_wire (Referral prefix) = refl
same_wire (Nonce nonce) = refl
same_wire Empty = refl
same_wire (Site octets) = refl

pub own_wire : (content : ReplyContent) → IsByWire (wire_of_content content) content
own_wire (Values wire handle values) = refl
own_wire (Handles handles) = tt
own_wire Nothing = tt
own_wire (Referral prefix) = tt
own_wire (Nonce nonce) = tt
own_wire Empty = tt
own_wire (Site octets) = tt

-- the reply as its reader sees it
abbrev pub reply_seen_by : Reply → Reply
reply_seen_by y = record { session = y.session; request = y.request; header = y.header; digest = y.digest; content = content_read y.content }

pub same_message : (y : Reply) → reply_message (reply_seen_by y) ≡ reply_message y
unfolding reply_message reply_body
same_message y = ap (λ (x : List ℕ). header_octets y.header ++ (string (digest_octets y.digest ++ x) ++ string [])) (same_content y.content)

pub same_octets : (y : Reply) → reply_octets (reply_seen_by y) ≡ reply_octets y
unfolding reply_octets
same_octets y = ap (λ (x : List ℕ). envelope_octets (message_envelope y.session y.request (length x)) ++ x) (same_message y)
