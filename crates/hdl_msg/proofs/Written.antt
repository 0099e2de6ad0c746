-- What was written at an end, and how long it is.
use Rattle.std.proofs.Common.{◌≡◌, ℕ, ◌-◌, ◌+◌, ◌^◌, ◌<◌, ◌≤◌, List, [], ◌∷◌, ◌++◌, length, refl, ap, ◌∙◌, append_assoc, arith}
use Rattle.std.specs.List.{flat_map, AllByRecursion}
use Rattle.std.specs.Int.{w16, w32, w64, to_be_bytes}
use Rattle.std.proofs.lemmas.List.{length-append}
use Rattle.std.proofs.lemmas.List.Concat.{flat_map-cons}
use Rattle.hdl_value.specs.declared.value.Value.{Value}
use Rattle.hdl_value.specs.declared.references.RawRef.{RawRef}
use Rattle.hdl_value.specs.Spelling.{string, reference, references, spelling, CanBeSpelt}
use Rattle.hdl_value.specs.declared.wire.Wire.{Wire}
use Rattle.hdl_value.specs.declared.wire.Wire.TheVariants.{Profile, HandleNet}
use Rattle.hdl_value.specs.HandleNet.{net_spelling}
use Rattle.hdl_value.specs.Wires.{wire_spelling}
use Rattle.hdl_msg.specs.declared.fields.Header.{Header}
use Rattle.hdl_msg.specs.Message.{number, count_prefixed, header_octets}
use Rattle.hdl_frame.specs.Envelope.{envelope_octets, message_envelope}
use Rattle.hdl_msg.specs.declared.replies.Reply.{Reply}
use Rattle.hdl_msg.specs.declared.replies.ReplyContent.{ReplyContent}
use Rattle.hdl_msg.specs.declared.replies.ReplyContent.TheVariants.{Values, Handles, Nothing, Referral, Nonce, Empty, Site}
use Rattle.hdl_limits.specs.declared.TheConstants.{MESSAGE_MAX}
use Rattle.hdl_msg.specs.Reply.{fixed_length, CanBeWritten, content_octets, digest_octets, reply_body, reply_message, reply_octets}
use Rattle.hdl_limits.specs.Counts.{at_most_u64}

regroup_header : (o a b c d : List ℕ) (p q : ℕ) (g : List ℕ) → o ++ a ++ b ++ c ++ d ++ (p ∷ []) ++ (q ∷ []) ++ g ≡ o ++ (a ++ (b ++ (c ++ (d ++ (p ∷ (q ∷ g))))))
regroup_header o a b c d p q g = simp append_assoc

pub header_written : (o x1 x2 x3 x4 x5 x6 x7 : List ℕ) (h : Header) → x1 ≡ o ++ number h.op_code → x2 ≡ x1 ++ number h.response_code → x3 ≡ x2 ++ number h.op_flag → x4 ≡ x3 ++ to_be_bytes w16 h.serial
    → x5 ≡ x4 ++ h.recursion ∷ [] → x6 ≡ x5 ++ h.reserved ∷ [] → x7 ≡ x6 ++ number h.expiration → x7 ≡ o ++ header_octets h
unfolding header_octets
header_written o x1 x2 x3 x4 x5 x6 x7 h e1 e2 e3 e4 e5 e6 e7 =
    e7 ∙ ap (λ (x : List ℕ). x ++ number h.expiration)
    (e6 ∙ ap (λ (x : List ℕ). x ++ h.reserved ∷ [])
    (e5 ∙ ap (λ (x : List ℕ). x ++ h.recursion ∷ [])
    (e4 ∙ ap (λ (x : List ℕ). x ++ to_be_bytes w16 h.serial)
    (e3 ∙ ap (λ (x : List ℕ). x ++ number h.op_flag)
    (e2 ∙ ap (λ (x : List ℕ). x ++ number h.response_code) e1)))))
    ∙ regroup_header o (number h.op_code) (number h.response_code) (number h.op_flag) (to_be_bytes w16 h.serial) h.recursion h.reserved (number h.expiration)

-- ---- lengths

pub length-header_octets : (h : Header) → length (header_octets h) ≡ 20
unfolding header_octets
length-header_octets h = refl

profile_length : (v : Value) → length (spelling v) ≡ length (string v.kind) + length (string v.bytes) + length (references v.references) + length v.ttl + 13
unfolding spelling
profile_length v =
    omega (
      arith,
      length-append v.kind (string v.bytes ++ (v.ttl ++ (v.permissions ∷ (to_be_bytes w64 v.timestamp ++ references v.references)))),
      length-append v.bytes (v.ttl ++ (v.permissions ∷ (to_be_bytes w64 v.timestamp ++ references v.references))),
      length-append v.ttl (v.permissions ∷ (to_be_bytes w64 v.timestamp ++ references v.references)),
    )

net_length : (v : Value) → length (net_spelling v) ≡ length (string v.kind) + length (string v.bytes) + length (references v.references) + length v.ttl + 9
unfolding net_spelling
net_length v =
    omega (
      arith,
      length-append v.ttl (v.permissions ∷ (string v.kind ++ (string v.bytes ++ references v.references))),
      length-append v.kind (string v.bytes ++ references v.references),
      length-append v.bytes (references v.references),
    )

pub length-spelling : (wire : Wire) (v : Value) → length (wire_spelling wire v) ≡ length (string v.kind) + length (string v.bytes) + length (references v.references) + length v.ttl + fixed_length wire
length-spelling Profile v = profile_length v
length-spelling HandleNet v = net_length v

pub at_most_u64-sum : (a b : ℕ) → at_most_u64 (at_most_u64 a + b) ≡ at_most_u64 (a + b)
at_most_u64-sum a b = omega arith

pub at_most_u64-both : (a b : ℕ) → at_most_u64 (at_most_u64 a + at_most_u64 b) ≡ at_most_u64 (a + b)
at_most_u64-both a b = omega arith

pub at_most_u64_five : (a b c d e n : ℕ) → n ≡ a + b + c + d + e → at_most_u64 (at_most_u64 (at_most_u64 (at_most_u64 (at_most_u64 a + at_most_u64 b) + at_most_u64 c) + d) + e) ≡ at_most_u64 n
at_most_u64_five a b c d e n is = omega (arith, is)

pub length-reply_message : (y : Reply) → length (reply_message y) ≡ length (digest_octets y.digest) + length (content_octets y.content) + 28
unfolding reply_message reply_body header_octets
length-reply_message y =
    omega (arith, length-append (digest_octets y.digest) (content_octets y.content), length-append (digest_octets y.digest ++ content_octets y.content) (string []))

-- ---- what is short enough has lengths that fit

pub few_from : {A : Type 0} (w : A → List ℕ) → ((x : A) → 1 ≤ length (w x)) → (xs : List A) → length xs ≤ length (flat_map w xs)
few_from w some [] = omega arith
few_from w some (x ∷ xs) =
    let e : length (flat_map w (x ∷ xs)) ≡ length (w x) + length (flat_map w xs) = ap length (flat_map-cons w x xs) ∙ length-append (w x) (flat_map w xs) in
    omega (arith, e, some x, few_from w some xs)

pub each_from : {A : Type 0} (w : A → List ℕ) (P : A → Type 0) (limit : ℕ) → ((x : A) → length (w x) < limit → P x) → (xs : List A) → length (flat_map w xs) < limit → AllByRecursion P xs
each_from w P limit each [] lt = tt
each_from w P limit each (x ∷ xs) lt =
    let e : length (flat_map w (x ∷ xs)) ≡ length (w x) + length (flat_map w xs) = ap length (flat_map-cons w x xs) ∙ length-append (w x) (flat_map w xs) in
    (each x (omega (arith, e, lt)), each_from w P limit each xs (omega (arith, e, lt)))

some_reference : (r : RawRef) → 1 ≤ length (reference r)
some_reference r = omega arith

pub some_spelling : (wire : Wire) (v : Value) → 1 ≤ length (wire_spelling wire v)
some_spelling wire v = omega (arith, length-spelling wire v)

short_handle : (r : RawRef) → length (reference r) < 2 ^ 32 → length r.handle < 2 ^ 32
short_handle r lt = omega (arith, lt, length-append r.handle (to_be_bytes w32 r.index))

pub short_value : (wire : Wire) (v : Value) → length (wire_spelling wire v) < 2 ^ 32 → CanBeSpelt v
short_value wire v lt =
    let all = length-spelling wire v in
    record {
      kind = omega (arith, all, lt);
      bytes = omega (arith, all, lt);
      count = omega (arith, all, lt, few_from reference some_reference v.references);
      handles = each_from reference (λ r. length r.handle < 2 ^ 32) (2 ^ 32) short_handle v.references (omega (arith, all, lt));
    }

pub can_write : (content : ReplyContent) → length (content_octets content) < 2 ^ 32 → CanBeWritten content
can_write (Values wire handle values) lt =
    let all = length-append handle (count_prefixed (wire_spelling wire) values) in
    (omega (arith, all, lt), (omega (arith, all, lt, few_from (wire_spelling wire) (some_spelling wire) values), each_from (wire_spelling wire) CanBeSpelt (2 ^ 32) (short_value wire) values (omega (arith, all, lt))))
can_write (Handles handles) lt =
    (omega (arith, lt, few_from string (λ t. omega arith) handles), each_from string (λ t. length t < 2 ^ 32) (2 ^ 32) (λ t l. omega (arith, l)) handles (omega (arith, lt)))
can_write Nothing lt = tt
can_write (Referral prefix) lt = omega (arith, lt, length-append prefix (number 0))
can_write (Nonce nonce) lt = tt
can_write Empty lt = tt
can_write (Site octets) lt = lt

pub content_short : (y : Reply) → length (reply_message y) ≤ MESSAGE_MAX → CanBeWritten y.content
content_short y le = can_write y.content (omega (arith, le, length-reply_message y))

-- ---- the whole reply

regroup_reply : (e h b d c z : List ℕ) → e ++ h ++ b ++ d ++ c ++ z ≡ e ++ (h ++ ((b ++ (d ++ c)) ++ z))
regroup_reply e h b d c z = simp append_assoc

whole : (y : Reply) (n : ℕ) → n ≡ length (reply_message y)
    → envelope_octets (message_envelope y.session y.request n) ++ (header_octets y.header ++ ((number (n - 28) ++ (digest_octets y.digest ++ content_octets y.content)) ++ number 0))
    ≡ envelope_octets (message_envelope y.session y.request (length (reply_message y))) ++ reply_message y
unfolding reply_message reply_body
whole y n is =
    let body : n - 28 ≡ length (digest_octets y.digest ++ content_octets y.content) = omega (arith, is, length-reply_message y, length-append (digest_octets y.digest) (content_octets y.content)) in
    rw (body, is) refl

pub reply_written : (env x1 x2 x3 x4 x5 x6 : List ℕ) (y : Reply) (n : ℕ) → n ≡ length (reply_message y) → env ≡ envelope_octets (message_envelope y.session y.request n)
    → x1 ≡ env → x2 ≡ x1 ++ header_octets y.header → x3 ≡ x2 ++ number (n - 28) → x4 ≡ x3 ++ digest_octets y.digest → x5 ≡ x4 ++ content_octets y.content → x6 ≡ x5 ++ number 0 → x6 ≡ reply_octets y
unfolding reply_octets
reply_written env x1 x2 x3 x4 x5 x6 y n is e0 e1 e2 e3 e4 e5 e6 =
    e6 ∙ ap (λ (x : List ℕ). x ++ number 0)
    (e5 ∙ ap (λ (x : List ℕ). x ++ content_octets y.content)
    (e4 ∙ ap (λ (x : List ℕ). x ++ digest_octets y.digest)
    (e3 ∙ ap (λ (x : List ℕ). x ++ number (n - 28))
    (e2 ∙ ap (λ (x : List ℕ). x ++ header_octets y.header) (e1 ∙ e0)))))
    ∙ regroup_reply (envelope_octets (message_envelope y.session y.request n)) (header_octets y.header) (number (n - 28)) (digest_octets y.digest) (content_octets y.content) (number 0)
    ∙ whole y n is
