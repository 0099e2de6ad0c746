-- How long the message of a reply is: session, request number and code don't matter.
use Rattle.std.proofs.Common.{◌≡◌, ◌≤◌, ◌<◌, ◌+◌, ◌-◌, ℕ, Bool, true, false, cond, List, ◌++◌, length, length-append, sym, ap, ◌∙◌, arith, Some, None}
use Rattle.std.specs.Prelude.{IsTrue, codes, nat_le}
use Rattle.std.specs.List.{position_or_len}
use Rattle.std.proofs.lemmas.Bool.{leb-true, le-leb, false_from_ne_true}
use Rattle.std.proofs.lemmas.List.{length-take, length-drop}
use Rattle.hdl_auth.specs.declared.algorithm.Algorithm.{Algorithm}
use Rattle.hdl_auth.specs.declared.algorithm.Digest.{Digest}
use Rattle.hdl_auth.specs.Digest.{size_of, digest_spelling, digest_of}
use Rattle.hdl_auth.proofs.Digests.{digest_short, length-digest}
use Rattle.hdl_name.specs.Name.{IsHandle, is_slash, is_admin, sent_authority, sent_local, sent_prefix}
use Rattle.hdl_value.specs.Spelling.{string}
use Rattle.hdl_msg.specs.Message.{Content, number, signed_octets}
use Rattle.hdl_msg.specs.declared.replies.Reply.{Reply}
use Rattle.hdl_msg.specs.declared.replies.ReplyContent.{ReplyContent}
use Rattle.hdl_msg.specs.declared.replies.ReplyContent.TheVariants.{Empty, Referral, Nonce}
use Rattle.hdl_limits.specs.declared.TheConstants.{MESSAGE_MAX}
use Rattle.hdl_msg.specs.Reply.{digest_octets, content_octets, reply_message, reply_body}
use Rattle.hdl_limits.specs.Counts.{at_most_u64}
use Rattle.hdl_msg.proofs.Written.{length-reply_message}
use Rattle.hdl_ops.specs.Requests.{wants_digest}
use Rattle.hdl_ops.specs.Replies.{asked_digest, reply_to, fits}

same_length : (a : Algorithm) (moment session number : ℕ) (r : Content) (code : ℕ) (content : ReplyContent)
    → length (reply_message (reply_to a moment session number r code content)) ≡ length (reply_message (reply_to a 0 0 0 r 0 content))
unfolding reply_to reply_body
same_length a moment session number r code content = length-reply_message (reply_to a moment session number r code content) ∙ sym (length-reply_message (reply_to a 0 0 0 r 0 content))

pub fits_anywhere : (a : Algorithm) (moment session number : ℕ) (r : Content) (code : ℕ) (content : ReplyContent) → IsTrue (fits a r content)
    → length (reply_message (reply_to a moment session number r code content)) ≤ MESSAGE_MAX
unfolding fits
fits_anywhere a moment session number r code content h =
    let le = leb-true (length (reply_message (reply_to a 0 0 0 r 0 content))) MESSAGE_MAX h in
    let same = same_length a moment session number r code content in
    omega (arith, le, same)

-- ---- a reply that was measured without its digest

pub asked_room : (a : Algorithm) (r : Content) → wants_digest r ≡ true → size_of a + 1 ≡ length (digest_octets (asked_digest a r))
asked_room a r e =
    let is : length (digest_octets (asked_digest a r)) ≡ length (digest_spelling (digest_of a (signed_octets r))) = ap (λ (b : Bool). length (digest_octets (cond b (Some (digest_of a (signed_octets r))) None))) e in
    omega (arith, is, length-digest a (signed_octets r))

with_room : (a : Algorithm) (r : Content) (plain : Reply) → plain.digest ≡ None
    → length (reply_message (reply_to a 0 0 0 r 0 plain.content)) ≡ length (digest_octets (asked_digest a r)) + length (reply_message plain)
unfolding reply_to
with_room a r plain none =
    let bare : length (digest_octets plain.digest) ≡ 0 = ap (λ d. length (digest_octets d)) none in
    omega (arith, bare, length-reply_message plain, length-reply_message (reply_to a 0 0 0 r 0 plain.content))

-- one that leaves room for the digest
pub room_left : (a : Algorithm) (r : Content) (plain : Reply) (n room : ℕ) → plain.digest ≡ None → n ≡ at_most_u64 (length (reply_message plain)) → room ≡ length (digest_octets (asked_digest a r))
    → room ≤ 33 → n ≤ MESSAGE_MAX - room → fits a r plain.content ≡ true
unfolding fits
room_left a r plain n room none len is few le =
    le-leb (length (reply_message (reply_to a 0 0 0 r 0 plain.content))) MESSAGE_MAX (omega (arith, with_room a r plain none, len, is, few, le))

-- one that leaves none
pub no_room_left : (a : Algorithm) (r : Content) (plain : Reply) (n room : ℕ) → plain.digest ≡ None → n ≡ at_most_u64 (length (reply_message plain)) → room ≡ length (digest_octets (asked_digest a r))
    → room ≤ 33 → MESSAGE_MAX - room < n → fits a r plain.content ≡ false
unfolding fits
no_room_left a r plain n room none len is few more =
    false_from_ne_true (nat_le (length (reply_message (reply_to a 0 0 0 r 0 plain.content))) MESSAGE_MAX) (λ e.
    let le = leb-true (length (reply_message (reply_to a 0 0 0 r 0 plain.content))) MESSAGE_MAX e in
    omega (arith, with_room a r plain none, len, is, few, more, le))

-- ---- what always fits

asked_short : (a : Algorithm) (b : Bool) (m : List ℕ) → length (digest_octets (cond b (Some (digest_of a m)) None)) ≤ 33
asked_short a true m = digest_short a m
asked_short a false m = omega arith

short_fits : (a : Algorithm) (r : Content) (content : ReplyContent) → length (content_octets content) ≤ 60000 → IsTrue (fits a r content)
unfolding fits reply_to
short_fits a r content h =
    let y = reply_to a 0 0 0 r 0 content in
    let len = length-reply_message y in
    let digest = asked_short a (wants_digest r) (signed_octets r) in
    le-leb (length (reply_message y)) MESSAGE_MAX (omega (arith, len, digest, h))

pub empty_fits : (a : Algorithm) (r : Content) → IsTrue (fits a r Empty)
empty_fits a r = short_fits a r Empty (omega arith)

pub referral_fits : (a : Algorithm) (r : Content) (prefix : List ℕ) → length prefix ≤ 2048 → IsTrue (fits a r (Referral prefix))
referral_fits a r prefix h =
    let front = length-append (codes "0.NA/") prefix in
    let all = length-append (string (codes "0.NA/" ++ prefix)) (number 0) in
    short_fits a r (Referral prefix) (omega (arith, front, all, h))

-- a name's prefix is no longer than the name
pub prefix_short : (name : List ℕ) → IsHandle name → length (sent_prefix name) ≤ 2048
prefix_short name h = by (is_admin name)
  where
    by : (b : Bool) → length (cond b (sent_local name) (sent_authority name)) ≤ 2048
    by true = let short = h.2.short in let len = length-drop (position_or_len is_slash name + 1) name in omega (arith, short, len)
    by false = let short = h.2.short in let len = length-take (position_or_len is_slash name) name in omega (arith, short, len)

-- a challenge always fits
pub challenge_short : (y : Reply) (d : Digest) (nonce : List ℕ) → y.digest ≡ Some d → y.content ≡ Nonce nonce → length (digest_spelling d) ≤ 33 → length nonce ≤ 16 → length (reply_message y) ≤ MESSAGE_MAX
challenge_short y d nonce digest content short few =
    let len = length-reply_message y in
    let front : length (digest_octets y.digest) ≡ length (digest_octets (Some d)) = ap (λ o. length (digest_octets o)) digest in
    let rest : length (content_octets y.content) ≡ length (content_octets (Nonce nonce)) = ap (λ (c : ReplyContent). length (content_octets c)) content in
    omega (arith, len, front, rest, short, few)
