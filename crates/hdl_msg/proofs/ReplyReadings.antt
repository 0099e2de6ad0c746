-- A reply that is read is the one that is spelt, and there is no other.
use Rattle.std.proofs.Common.{◌≡◌, ℕ, ◌≤◌, Bool, true, false, cond, eqb, List, [], ◌∷◌, ◌++◌, length, drop, codes, Option, Some, None, refl, sym, ap, subst, ◌∙◌, append_assoc, arith, rules}
use Rattle.std.specs.Prelude.{bytes_eq, is_some}
use Rattle.std.specs.Int.{w32}
use Rattle.std.proofs.lemmas.Bool.{eqb-true, le-ltb}
use Rattle.std.proofs.lemmas.Nat.{from_be_bytes-to_be_bytes_4}
use Rattle.std.proofs.lemmas.Option.{cond_some}
use Rattle.std.proofs.lemmas.List.{nil_from_length, length-append}
use Rattle.hdl_auth.specs.declared.algorithm.Digest.{Digest}
use Rattle.hdl_auth.specs.declared.algorithm.Digest.TheVariants.{Sha1, Sha256}
use Rattle.hdl_auth.specs.Digest.{digest_spelling}
use Rattle.hdl_limits.specs.Octets.{AreOctets}
use Rattle.hdl_value.specs.Spelling.{string, IsString}
use Rattle.hdl_value.specs.declared.wire.Wire.{Wire}
use Rattle.hdl_value.specs.declared.wire.Wire.TheVariants.{Profile}
use Rattle.hdl_value.specs.Reading.{◌>>=◌, pair_at, whole_of, number_at, octets_at, octet_at, string_at, Takes, IsCodec}
use Rattle.hdl_value.proofs.FieldLaws.{bind_some, some_is, octets_take, octets_again, octet_takes, Takes-then, IsLong}
use Rattle.hdl_value.proofs.Codecs.{pair_codec, string_codec, octets_codec}
use Rattle.hdl_value.proofs.DataRead.{whole_takes, whole_again}
use Rattle.hdl_frame.specs.declared.envelope.Envelope.{Envelope}
use Rattle.hdl_frame.specs.Envelope.{envelope_octets, envelope_at, fault_of, payload_len, message_envelope}
use Rattle.hdl_frame.specs.Frames.{IsFrame}
use Rattle.hdl_msg.specs.declared.fields.Header.{Header}
use Rattle.hdl_msg.specs.declared.replies.Reply.{Reply}
use Rattle.hdl_msg.specs.declared.replies.ReplyContent.{ReplyContent}
use Rattle.hdl_msg.specs.declared.replies.ReplyContent.TheVariants.{Values, Handles, Nothing, Referral, Nonce, Empty, Site}
use Rattle.hdl_msg.specs.declared.reply_view.ReplyForm.{ReplyForm}
use Rattle.hdl_msg.specs.declared.reply_view.ReplyForm.TheVariants as form
use Rattle.hdl_msg.specs.Message.{number, count_prefixed, header_octets, IsNumber, AreFew, strings_at, values_at, message_at, message_layout}
use Rattle.hdl_msg.specs.Reading.{sized_digest_at, digest_behind, digest_at, announced_digest_at, prefix_in, shown_values_in, handles_in, nothing_in, referral_in, nonce_in, empty_in, content_in, reply_body_in, reply_at}
use Rattle.hdl_limits.specs.declared.TheConstants.{MESSAGE_MAX}
use Rattle.hdl_msg.specs.Reply.{IsByWire, wire_of_content, parts_read, content_octets, digest_octets, reply_body, reply_message, reply_octets, short_header, short_reply, ReplyParts, reply_parts, announces_digest, announced_form, form_of, IsWholeDigest, DigestFits, ContentFits, IsAnnounced, PartsFit, parts_body, SpellsReply, FramesReply, IsReplyFrame}
use Rattle.hdl_msg.specs.Laws.{IsReadable, reply_of, short_parts}
use Rattle.hdl_msg.proofs.Codecs.{Message, MessageFits, message_codec, write_codec, strings_codec, u32_codec, AreOctets-front, AreOctets-back}
use Rattle.hdl_msg.proofs.Written.{length-reply_message}
use Rattle.hdl_msg.proofs.Seen.{own_wire, same_wire, same_form, same_message, same_octets, reply_seen_by}

-- a test that was passed
passed : {A : Type 0} (b : Bool) (o : Option A) (y : A) → cond b o None ≡ Some y → (b ≡ true) × (o ≡ Some y)
passed true o y e = (refl, e)
passed false o y e = absurd cc

-- a test of which each side gives the same
tested : {A : Type 0} (P : Type 0) (b : Bool) (x y : Option A) (z : A) → (b ≡ true → x ≡ Some z → P) → (b ≡ false → y ≡ Some z → P) → cond b x y ≡ Some z → P
tested P true x y z on off e = on refl e
tested P false x y z on off e = off refl e

-- ---- digests

-- what stands behind the octet of a hash function
sized_takes : (make : List ℕ → Digest) (n first : ℕ) → ((text : List ℕ) → IsLong n text → IsWholeDigest (make text)) → ((text : List ℕ) → digest_spelling (make text) ≡ first ∷ text)
    → (octets behind : List ℕ) (d : Digest) (rest : List ℕ) → Takes octets (first ∷ []) behind → sized_digest_at make n behind ≡ Some (d, rest) → Takes octets (digest_spelling d) rest × IsWholeDigest d
sized_takes make n first whole spells octets behind d rest one e =
    let x = bind_some (octets_at n behind) (λ x. Some (make x.0, x.1)) (d, rest) e in
    let many = octets_take n behind x.0.0 x.0.1 one.rest_fits x.1 in
    let both : Takes octets (digest_spelling (make x.0.0)) x.0.1 = subst (λ (s : List ℕ). Takes octets s x.0.1) (sym (spells x.0.0)) (Takes-then octets (first ∷ []) behind x.0.0 x.0.1 one many.0) in
    subst (λ (y : Digest × List ℕ). Takes octets (digest_spelling y.0) y.1 × IsWholeDigest y.0) (some_is (make x.0.0, x.0.1) (d, rest) x.2) (both, whole x.0.0 many.1)

digest_takes : (octets : List ℕ) (d : Digest) (rest : List ℕ) → AreOctets octets → digest_at octets ≡ Some (d, rest) → Takes octets (digest_spelling d) rest × IsWholeDigest d
unfolding digest_at
digest_takes octets d rest fits e =
    let a = bind_some (octet_at octets) (λ a. digest_behind a.0 a.1) (d, rest) e in
    let one = (octet_takes octets a.0.0 a.0.1 fits a.1).0 in
    let named : (n : ℕ) → eqb a.0.0 n ≡ true → Takes octets (n ∷ []) a.0.1 = λ n t. subst (λ (m : ℕ). Takes octets (m ∷ []) a.0.1) (eqb-true _ _ t) one in
    tested (Takes octets (digest_spelling d) rest × IsWholeDigest d) (eqb a.0.0 2) (sized_digest_at Sha1 20 a.0.1) (cond (eqb a.0.0 3) (sized_digest_at Sha256 32 a.0.1) None) (d, rest)
    (λ t f. sized_takes Sha1 20 2 (λ text long. long) (λ text. refl) octets a.0.1 d rest (named 2 t) f)
    (λ _ f.
    let p = passed (eqb a.0.0 3) (sized_digest_at Sha256 32 a.0.1) (d, rest) f in
    sized_takes Sha256 32 3 (λ text long. long) (λ text. refl) octets a.0.1 d rest (named 3 p.0) p.1)
    a.2

digest_again : (d : Digest) (rest : List ℕ) → IsWholeDigest d → digest_at (digest_spelling d ++ rest) ≡ Some (d, rest)
unfolding digest_at
digest_again (Sha1 text) rest fits = rw (octets_again 20 text rest fits.0) refl
digest_again (Sha256 text) rest fits = rw (octets_again 32 text rest fits.0) refl

pub record DigestTakes (announced : Bool) (octets : List ℕ) (d : Option Digest) (rest : List ℕ) : Type 0 where
  pub fits : DigestFits d
  pub has : is_some d ≡ announced
  pub parts : octets ≡ digest_octets d ++ rest
  pub rest_fits : AreOctets rest

announced_takes : (announced : Bool) (octets : List ℕ) (x : Option Digest × List ℕ) → AreOctets octets → announced_digest_at announced octets ≡ Some x → DigestTakes announced octets x.0 x.1
unfolding announced_digest_at
announced_takes false octets x fits e =
    subst (λ (y : Option Digest × List ℕ). DigestTakes false octets y.0 y.1) (some_is (None, octets) x e) (record { fits = tt; has = refl; parts = refl; rest_fits = fits })
announced_takes true octets x fits e =
    let d = bind_some (digest_at octets) (λ d. Some (Some d.0, d.1)) x e in
    let t = digest_takes octets d.0.0 d.0.1 fits d.1 in
    let made : Option Digest × List ℕ = (Some d.0.0, d.0.1) in
    subst (λ (y : Option Digest × List ℕ). DigestTakes true octets y.0 y.1) (some_is made x d.2) (record { fits = t.1; has = refl; parts = t.0.parts; rest_fits = t.0.rest_fits })

announced_again : (d : Option Digest) (rest : List ℕ) → DigestFits d → announced_digest_at (is_some d) (digest_octets d ++ rest) ≡ Some (d, rest)
unfolding announced_digest_at
announced_again None rest fits = refl
announced_again (Some d) rest fits = rw (digest_again d rest fits) refl

-- ---- contents

-- by this layout the octets are a content of this form
pub record SpellsContent (wire : Wire) (f : ReplyForm) (octets : List ℕ) (content : ReplyContent) : Type 0 where
  pub by_wire : IsByWire wire content
  pub fits : ContentFits content
  pub has_form : form_of content ≡ f
  pub spelt : octets ≡ content_octets content

prefix_takes : (octets prefix : List ℕ) → AreOctets octets → prefix_in octets ≡ Some prefix → octets ≡ codes "0.NA/" ++ prefix
unfolding prefix_in
prefix_takes octets prefix fits e =
    let a = bind_some (octets_at 5 octets) (λ x. cond (bytes_eq x.0 (codes "0.NA/")) (Some x.1) None) prefix e in
    let g = cond_some (bytes_eq a.0.0 (codes "0.NA/")) a.0.1 prefix a.2 in
    let t = octets_take 5 octets a.0.0 a.0.1 fits a.1 in
    let front : a.0.0 ≡ codes "0.NA/" = search rules in
    t.0.parts ∙ ap (λ (x : List ℕ). x ++ a.0.1) front ∙ ap (λ (x : List ℕ). codes "0.NA/" ++ x) g.1

prefix_again : (prefix : List ℕ) → prefix_in (codes "0.NA/" ++ prefix) ≡ Some prefix
unfolding prefix_in
prefix_again prefix = rw (octets_again 5 (codes "0.NA/") prefix refl) refl

referral_codec : IsCodec (pair_at string_at (number_at w32)) (λ x. string x.0 ++ number x.1) (λ x. IsString x.0 × IsNumber x.1)
referral_codec = pair_codec string_at string IsString (number_at w32) number IsNumber string_codec u32_codec

values_takes : (wire : Wire) (octets : List ℕ) (content : ReplyContent) → AreOctets octets → shown_values_in wire octets ≡ Some content → SpellsContent wire form.Values octets content
unfolding shown_values_in
values_takes wire octets content fits e =
    let a = bind_some (whole_of (pair_at string_at (values_at wire)) octets) (λ x. Some (Values wire x.0 x.1)) content e in
    let t = whole_takes _ _ _ (write_codec wire) octets a.0 fits a.1 in
    subst (λ (c : ReplyContent). SpellsContent wire form.Values octets c) (some_is (Values wire a.0.0 a.0.1) content a.2) (record { by_wire = refl; fits = t.1; has_form = refl; spelt = t.0 })

handles_takes : (wire : Wire) (octets : List ℕ) (content : ReplyContent) → AreOctets octets → handles_in octets ≡ Some content → SpellsContent wire form.Handles octets content
unfolding handles_in
handles_takes wire octets content fits e =
    let a = bind_some (whole_of strings_at octets) (λ x. Some (Handles x)) content e in
    let t = whole_takes strings_at (count_prefixed string) (AreFew IsString) strings_codec octets a.0 fits a.1 in
    subst (λ (c : ReplyContent). SpellsContent wire form.Handles octets c) (some_is (Handles a.0) content a.2) (record { by_wire = tt; fits = t.1; has_form = refl; spelt = t.0 })

nothing_takes : (wire : Wire) (octets : List ℕ) (content : ReplyContent) → nothing_in octets ≡ Some content → SpellsContent wire form.Nothing octets content
unfolding nothing_in
nothing_takes wire octets content e =
    let g = cond_some (eqb (length octets) 0) Nothing content e in
    subst (λ (c : ReplyContent). SpellsContent wire form.Nothing octets c) g.1 (record { by_wire = tt; fits = tt; has_form = refl; spelt = nil_from_length octets (eqb-true _ _ g.0) })

referral_takes : (wire : Wire) (octets : List ℕ) (content : ReplyContent) → AreOctets octets → referral_in octets ≡ Some content → SpellsContent wire form.Referral octets content
unfolding referral_in
referral_takes wire octets content fits e =
    let a = bind_some (whole_of (pair_at string_at (number_at w32)) octets) (λ x. cond (eqb x.1 0) (prefix_in x.0 >>= λ p. Some (Referral p)) None) content e in
    let p = passed (eqb a.0.1 0) (prefix_in a.0.0 >>= λ p. Some (Referral p)) content a.2 in
    let b = bind_some (prefix_in a.0.0) (λ p. Some (Referral p)) content p.1 in
    let t = whole_takes _ _ _ referral_codec octets a.0 fits a.1 in
    let named = prefix_takes a.0.0 b.0 t.1.0.each b.1 in
    let zero : a.0.1 ≡ 0 = eqb-true _ _ p.0 in
    let spelt : octets ≡ string (codes "0.NA/" ++ b.0) ++ number 0 = t.0 ∙ ap (λ (n : ℕ). string a.0.0 ++ number n) zero ∙ ap (λ (s : List ℕ). string s ++ number 0) named in
    subst (λ (c : ReplyContent). SpellsContent wire form.Referral octets c) (some_is (Referral b.0) content b.2) (record { by_wire = tt; fits = subst IsString named t.1.0; has_form = refl; spelt = spelt })

nonce_takes : (wire : Wire) (octets : List ℕ) (content : ReplyContent) → AreOctets octets → nonce_in octets ≡ Some content → SpellsContent wire form.Nonce octets content
unfolding nonce_in
nonce_takes wire octets content fits e =
    let a = bind_some (whole_of string_at octets) (λ x. whole_of (octets_at 16) x >>= λ n. Some (Nonce n)) content e in
    let b = bind_some (whole_of (octets_at 16) a.0) (λ n. Some (Nonce n)) content a.2 in
    let t = whole_takes string_at string IsString string_codec octets a.0 fits a.1 in
    let u = whole_takes (octets_at 16) (λ text. text) (IsLong 16) (octets_codec 16) a.0 b.0 t.1.each b.1 in
    subst (λ (c : ReplyContent). SpellsContent wire form.Nonce octets c) (some_is (Nonce b.0) content b.2) (record { by_wire = tt; fits = u.1; has_form = refl; spelt = t.0 ∙ ap string u.0 })

empty_takes : (wire : Wire) (octets : List ℕ) (content : ReplyContent) → AreOctets octets → empty_in octets ≡ Some content → SpellsContent wire form.Empty octets content
unfolding empty_in
empty_takes wire octets content fits e =
    let a = bind_some (whole_of string_at octets) (λ x. cond (eqb (length x) 0) (Some Empty) None) content e in
    let g = cond_some (eqb (length a.0) 0) Empty content a.2 in
    let t = whole_takes string_at string IsString string_codec octets a.0 fits a.1 in
    subst (λ (c : ReplyContent). SpellsContent wire form.Empty octets c) g.1 (record { by_wire = tt; fits = tt; has_form = refl; spelt = t.0 ∙ ap string (nil_from_length a.0 (eqb-true _ _ g.0)) })

content_takes : (wire : Wire) (f : ReplyForm) (octets : List ℕ) (content : ReplyContent) → AreOctets octets → content_in wire f octets ≡ Some content → SpellsContent wire f octets content
unfolding content_in
content_takes wire form.Values octets content fits e = values_takes wire octets content fits e
content_takes wire form.Handles octets content fits e = handles_takes wire octets content fits e
content_takes wire form.Nothing octets content fits e = nothing_takes wire octets content e
content_takes wire form.Referral octets content fits e = referral_takes wire octets content fits e
content_takes wire form.Nonce octets content fits e = nonce_takes wire octets content fits e
content_takes wire form.Empty octets content fits e = empty_takes wire octets content fits e
content_takes wire form.Site octets content fits e =
    subst (λ (c : ReplyContent). SpellsContent wire form.Site octets c) (some_is (Site octets) content e) (record { by_wire = tt; fits = fits; has_form = refl; spelt = refl })

short16 : (n : List ℕ) → (length n ≡ 16) × AreOctets n → IsString n
short16 n fits = record { short = omega (arith, fits.0); each = fits.1 }

none_fit : IsString []
none_fit = record { short = omega arith; each = λ i. omega arith }

content_again : (wire : Wire) (content : ReplyContent) → IsByWire wire content → ContentFits content → content_in wire (form_of content) (content_octets content) ≡ Some content
unfolding content_in shown_values_in handles_in nothing_in referral_in nonce_in empty_in
content_again wire (Values own handle values) by fits =
    let read : content_in own form.Values (content_octets (Values own handle values)) ≡ Some (Values own handle values) = rw (whole_again _ _ _ (write_codec own) (handle, values) fits) refl in
    subst (λ (w : Wire). content_in w form.Values (content_octets (Values own handle values)) ≡ Some (Values own handle values)) by read
content_again wire (Handles handles) by fits = rw (whole_again strings_at (count_prefixed string) (AreFew IsString) strings_codec handles fits) refl
content_again wire Nothing by fits = refl
content_again wire (Referral prefix) by fits = rw (whole_again _ _ _ referral_codec (codes "0.NA/" ++ prefix, 0) (fits, omega arith), prefix_again prefix) refl
content_again wire (Nonce nonce) by fits = rw (whole_again string_at string IsString string_codec nonce (short16 nonce fits), whole_again (octets_at 16) (λ text. text) (IsLong 16) (octets_codec 16) nonce fits) refl
content_again wire (Site octets) by fits = refl
content_again wire Empty by fits = rw (whole_again string_at string IsString string_codec [] none_fit) refl

-- ---- replies

-- by this layout the octets are the body behind this header
pub record SpellsBody (wire : Wire) (h : Header) (octets : List ℕ) (p : ReplyParts) : Type 0 where
  pub by_wire : IsByWire wire p.content
  pub header : p.header ≡ h
  pub digest : DigestFits p.digest
  pub content : ContentFits p.content
  pub digest_announced : is_some p.digest ≡ announces_digest h
  pub form_announced : form_of p.content ≡ announced_form h
  pub spelt : octets ≡ parts_body p

body_takes : (wire : Wire) (h : Header) (octets : List ℕ) (p : ReplyParts) → AreOctets octets → reply_body_in wire h octets ≡ Some p → SpellsBody wire h octets p
unfolding reply_body_in
body_takes wire h octets p fits e =
    let d = bind_some (announced_digest_at (announces_digest h) octets) (λ d. content_in wire (announced_form h) d.1 >>= λ c. Some (record { header = h; digest = d.0; content = c })) p e in
    let c = bind_some (content_in wire (announced_form h) d.0.1) (λ c. Some (record { header = h; digest = d.0.0; content = c })) p d.2 in
    let s = announced_takes (announces_digest h) octets d.0 fits d.1 in
    let t = content_takes wire (announced_form h) d.0.1 c.0 s.rest_fits c.1 in
    let made : ReplyParts = record { header = h; digest = d.0.0; content = c.0 } in
    subst (λ (q : ReplyParts). SpellsBody wire h octets q) (some_is made p c.2)
    (record {
      by_wire = t.by_wire;
      header = refl;
      digest = s.fits;
      content = t.fits;
      digest_announced = s.has;
      form_announced = t.has_form;
      spelt = s.parts ∙ ap (λ (text : List ℕ). digest_octets d.0.0 ++ text) t.spelt;
    })

pub reply_takes : (wire : Wire) (octets : List ℕ) (p : ReplyParts) → AreOctets octets → reply_at wire octets ≡ Some p → SpellsReply wire octets p
unfolding reply_at
reply_takes wire octets p fits e =
    let m = bind_some (whole_of message_at octets) (λ m. cond (eqb (length m.1) 0) (reply_body_in wire m.0.0 m.0.1) None) p e in
    let g = passed (eqb (length m.0.1) 0) (reply_body_in wire m.0.0.0 m.0.0.1) p m.2 in
    let w = whole_takes message_at message_layout.write MessageFits message_codec octets m.0 fits m.1 in
    let h = m.0.0.0 in
    let text = m.0.0.1 in
    let signed = AreOctets-front octets (header_octets h ++ string text) (string m.0.1) fits w.0 in
    let inner = AreOctets-back _ (header_octets h) (string text) signed refl in
    let inside = AreOctets-back _ (number (length text)) text inner refl in
    let b = body_takes wire h text p inside g.1 in
    let none : m.0.1 ≡ [] = nil_from_length m.0.1 (eqb-true _ _ g.0) in
    let at : octets ≡ header_octets h ++ (string text ++ string []) = w.0 ∙ append_assoc (header_octets h) (string text) (string m.0.1) ∙ ap (λ (s : List ℕ). header_octets h ++ (string text ++ string s)) none in
    record {
      by_wire = b.by_wire;
      fits = record {
        header = rw b.header w.1.0.0;
        digest = b.digest;
        content = b.content;
      };
      announced = record {
        digest = b.digest_announced ∙ ap announces_digest (sym b.header);
        form = b.form_announced ∙ ap announced_form (sym b.header);
      };
      body_fits = rw (sym b.spelt) w.1.0.1;
      spelt = at ∙ ap (λ (s : List ℕ). header_octets h ++ (string s ++ string [])) b.spelt ∙ ap (λ (g : Header). header_octets g ++ (string (parts_body p) ++ string [])) (sym b.header);
    }

body_again : (wire : Wire) (p : ReplyParts) → IsByWire wire p.content → PartsFit p → IsAnnounced p → reply_body_in wire p.header (parts_body p) ≡ Some p
unfolding reply_body_in
body_again wire p by f announced =
    let first : announced_digest_at (announces_digest p.header) (digest_octets p.digest ++ content_octets p.content) ≡ Some (p.digest, content_octets p.content) =
    ap (λ (b : Bool). announced_digest_at b (digest_octets p.digest ++ content_octets p.content)) (sym announced.digest) ∙ announced_again p.digest (content_octets p.content) f.digest in
    let second : content_in wire (announced_form p.header) (content_octets p.content) ≡ Some p.content = ap (λ (k : ReplyForm). content_in wire k (content_octets p.content)) (sym announced.form) ∙ content_again wire p.content by f.content in
    rw (first, second) refl

pub reply_again : (wire : Wire) (octets : List ℕ) (p : ReplyParts) → SpellsReply wire octets p → reply_at wire octets ≡ Some p
unfolding reply_at
reply_again wire octets p s =
    let m : Message = ((p.header, parts_body p), []) in
    let whole = whole_again message_at message_layout.write MessageFits message_codec m ((s.fits.header, s.body_fits), omega arith) in
    let read : whole_of message_at octets ≡ Some m = ap (whole_of message_at) (s.spelt ∙ sym (append_assoc (header_octets p.header) (string (parts_body p)) (string []))) ∙ whole in
    rw (read, body_again wire p s.by_wire s.fits s.announced) refl

-- ---- what is written

framed : (session request : ℕ) (message : List ℕ) → length message ≤ MESSAGE_MAX → IsFrame (envelope_octets (message_envelope session request (length message)) ++ message)
unfolding envelope_octets envelope_at fault_of payload_len
framed session request message le =
    let size = from_be_bytes-to_be_bytes_4 (length message) (omega (arith, le)) in
    record {
      envelope = omega arith;
      accepted = rw (size, le-ltb MESSAGE_MAX (length message) le) refl;
      payload = rw size (omega arith);
    }

short_reply_framed : (code : ℕ) (e : Envelope) → IsFrame (short_reply code e)
unfolding short_reply header_octets
short_reply_framed code e = framed e.session e.request (header_octets (short_header code) ++ (string (string []) ++ string [])) (omega arith)

pub reply_spelt_lem : (y : Reply) → IsReadable y → SpellsReply (wire_of_content y.content) (drop 20 (reply_octets y)) (reply_parts y)
unfolding reply_octets envelope_octets reply_message reply_body
reply_spelt_lem y readable = record {
  by_wire = own_wire y.content;
  fits = readable.fits;
  announced = readable.announced;
  body_fits = omega (arith, readable.short, length-reply_message y, length-append (digest_octets y.digest) (content_octets y.content));
  spelt = refl;
}

pub reply_written_lem : (wire : Wire) (octets : List ℕ) (p : ReplyParts) (session request : ℕ) → SpellsReply wire octets p → length octets ≤ MESSAGE_MAX → IsReadable (reply_of session request p) × (drop 20 (reply_octets (reply_of session request p)) ≡ octets)
unfolding reply_octets envelope_octets reply_message reply_body
reply_written_lem wire octets p session request s le = (
  record { fits = s.fits; announced = s.announced; short = rw (sym s.spelt) le },
  sym s.spelt,
)

pub short_reply_spelt_lem : (e : Envelope) → SpellsReply Profile (drop 20 (short_reply 3 e)) (short_parts 3) × SpellsReply Profile (drop 20 (short_reply 4 e)) (short_parts 4)
unfolding short_reply envelope_octets announced_form
short_reply_spelt_lem e = (
  record {
    by_wire = tt;
    fits = record {
      header = record { op_code = omega arith; response_code = omega arith; op_flag = omega arith; serial = omega arith; recursion = omega arith; reserved = omega arith; expiration = omega arith };
      digest = tt;
      content = tt;
    };
    announced = record { digest = refl; form = refl };
    body_fits = omega arith;
    spelt = refl;
  },
  record {
    by_wire = tt;
    fits = record {
      header = record { op_code = omega arith; response_code = omega arith; op_flag = omega arith; serial = omega arith; recursion = omega arith; reserved = omega arith; expiration = omega arith };
      digest = tt;
      content = tt;
    };
    announced = record { digest = refl; form = refl };
    body_fits = omega arith;
    spelt = refl;
  },
)

-- ---- frames

reply_framed : (y : Reply) → IsReadable y → FramesReply (wire_of_content y.content) (reply_octets y) (reply_parts y)
unfolding reply_octets
reply_framed y readable = record { frame = framed y.session y.request (reply_message y) readable.short; spelt = reply_spelt_lem y readable }

-- what was written of a reply is read as its reader sees it
pub reply_read_back : (y : Reply) → PartsFit (parts_read (reply_parts y)) → IsAnnounced (reply_parts y) → length (reply_message y) ≤ MESSAGE_MAX → FramesReply (wire_of_content y.content) (reply_octets y) (parts_read (reply_parts y))
reply_read_back y fits announced short =
    let readable : IsReadable (reply_seen_by y) = record {
      fits = fits;
      announced = record { digest = announced.digest; form = same_form y.content ∙ announced.form };
      short = rw (same_message y) short;
    } in
    let framed = reply_framed (reply_seen_by y) readable in
    subst (λ (w : Wire). FramesReply w (reply_octets y) (parts_read (reply_parts y))) (same_wire y.content)
    (subst (λ (x : List ℕ). FramesReply (wire_of_content (reply_seen_by y).content) x (parts_read (reply_parts y))) (same_octets y) framed)

pub short_reply_read : (e : Envelope) → IsReplyFrame (short_reply 3 e) × IsReplyFrame (short_reply 4 e)
short_reply_read e =
    let s = short_reply_spelt_lem e in
    ((Profile, short_parts 3, record { frame = short_reply_framed 3 e; spelt = s.0 }), (Profile, short_parts 4, record { frame = short_reply_framed 4 e; spelt = s.1 }))
