-- A request that is read is the one that is spelt, and there is no other.
use Rattle.std.proofs.Common.{◌≡◌, ℕ, ◌≤◌, ◌-◌, List, [], ◌++◌, length, take, Option, Some, None, refl, sym, ap, subst, ◌∙◌}
use Rattle.std.proofs.lemmas.List.{append-nil}
use Rattle.hdl_value.specs.declared.value.Value.{Value}
use Rattle.hdl_limits.specs.Octets.{AreOctets}
use Rattle.hdl_value.specs.Spelling.{string, IsString}
use Rattle.hdl_value.specs.declared.wire.Wire.{Wire}
use Rattle.hdl_value.specs.Wires.{wire_spelling, WireFits}
use Rattle.hdl_value.specs.Reading.{◌>>=◌, whole_of, string_at, IsCodec}
use Rattle.hdl_value.proofs.FieldLaws.{bind_some, some_is}
use Rattle.hdl_value.proofs.Codecs.{prefix_free, string_codec}
use Rattle.hdl_value.proofs.DataRead.{whole_takes, whole_again}
use Rattle.hdl_msg.specs.declared.fields.Header.{Header}
use Rattle.hdl_msg.specs.declared.codes.OpCode.{OpCode}
use Rattle.hdl_msg.specs.declared.codes.OpCode.TheVariants.{Resolution, GetSiteInfo, CreateHandle, DeleteHandle, AddValue, RemoveValue, ModifyValue, ListHandles, ChallengeResponse}
use Rattle.hdl_msg.specs.Codes.{op_code_of, IsNumberOf}
use Rattle.hdl_msg.proofs.OpCodes.{op_code_is, op_code_again}
use Rattle.hdl_msg.specs.Message.{Operation, resolution, site_info, create, delete, add, remove, modify, list, response, other, body, number, count_prefixed, header_octets, IsShort, AreFew, OperationFits, code_of, Content, signed_octets, SpellsRequest, signed_at, message_at, message_layout}
use Rattle.hdl_msg.specs.Reading.{resolution_in, with_values_in, remove_in, response_in, operation_in, request_at}
use Rattle.hdl_msg.proofs.Codecs.{Message, MessageFits, message_codec, resolution_codec, write_codec, remove_codec, response_codec, signed_codec, front, AreOctets-front, AreOctets-back}

-- by this layout the octets are the body of an operation of this code
pub record SpellsBody (wire : Wire) (code : Option OpCode) (octets : List ℕ) (operation : Operation) : Type 0 where
  pub fits : OperationFits wire operation
  pub has_code : code_of operation ≡ code
  pub spelt : octets ≡ body wire operation

-- a reader whose result is seen as an operation
seen_takes : {A : Type 0} (r : List ℕ → Option (A × List ℕ)) (w : A → List ℕ) (f : A → Type 0) (make : A → Operation) → IsCodec r w f → (octets : List ℕ) (operation : Operation) → AreOctets octets
    → (whole_of r octets >>= λ x. Some (make x)) ≡ Some operation → (x : A) × (operation ≡ make x) × (octets ≡ w x) × f x
seen_takes r w f make c octets operation fits e =
    let a = bind_some (whole_of r octets) (λ x. Some (make x)) operation e in
    let t = whole_takes r w f c octets a.0 fits a.1 in
    (a.0, sym (some_is (make a.0) operation a.2), t.0, t.1)

seen_again : {A : Type 0} (r : List ℕ → Option (A × List ℕ)) (w : A → List ℕ) (f : A → Type 0) (make : A → Operation) → IsCodec r w f → (x : A) → f x → (whole_of r (w x) >>= λ y. Some (make y)) ≡ Some (make x)
seen_again r w f make c x fits = rw (whole_again r w f c x fits) refl

resolution_takes : (wire : Wire) (octets : List ℕ) (operation : Operation) → AreOctets octets → resolution_in octets ≡ Some operation → SpellsBody wire (Some Resolution) octets operation
unfolding resolution_in
resolution_takes wire octets operation fits e =
    let t = seen_takes _ _ _ (λ x. resolution x.0 x.1.0 x.1.1) resolution_codec octets operation fits e in
    rw t.1 (record { fits = t.3; has_code = refl; spelt = t.2 })

write_takes : (wire : Wire) (make : List ℕ × List Value → Operation) (code : Option OpCode) (octets : List ℕ) (operation : Operation) → ((x : List ℕ × List Value) → (IsString x.0 × AreFew (WireFits wire) x.1) → SpellsBody wire code (string x.0 ++ count_prefixed (wire_spelling wire) x.1) (make x))
    → AreOctets octets → (with_values_in wire octets >>= λ x. Some (make x)) ≡ Some operation → SpellsBody wire code octets operation
unfolding with_values_in
write_takes wire make code octets operation made fits e =
    let t = seen_takes _ _ _ make (write_codec wire) octets operation fits e in
    subst (λ (o : Operation). SpellsBody wire code octets o) (sym t.1) (subst (λ (s : List ℕ). SpellsBody wire code s (make t.0)) (sym t.2) (made t.0 t.3))

handle_takes : (wire : Wire) (make : List ℕ → Operation) (code : Option OpCode) (octets : List ℕ) (operation : Operation) → ((x : List ℕ) → IsString x → SpellsBody wire code (string x) (make x))
    → AreOctets octets → (whole_of string_at octets >>= λ x. Some (make x)) ≡ Some operation → SpellsBody wire code octets operation
handle_takes wire make code octets operation made fits e =
    let t = seen_takes string_at string IsString make string_codec octets operation fits e in
    subst (λ (o : Operation). SpellsBody wire code octets o) (sym t.1) (subst (λ (s : List ℕ). SpellsBody wire code s (make t.0)) (sym t.2) (made t.0 t.3))

remove_takes : (wire : Wire) (octets : List ℕ) (operation : Operation) → AreOctets octets → remove_in octets ≡ Some operation → SpellsBody wire (Some RemoveValue) octets operation
unfolding remove_in
remove_takes wire octets operation fits e =
    let t = seen_takes _ _ _ (λ x. remove x.0 x.1) remove_codec octets operation fits e in
    rw t.1 (record { fits = t.3; has_code = refl; spelt = t.2 })

response_takes : (wire : Wire) (octets : List ℕ) (operation : Operation) → AreOctets octets → response_in octets ≡ Some operation → SpellsBody wire (Some ChallengeResponse) octets operation
unfolding response_in
response_takes wire octets operation fits e =
    let t = seen_takes _ _ _ (λ x. response x.0 x.1.0 x.1.1.0 x.1.1.1) response_codec octets operation fits e in
    rw t.1 (record { fits = t.3; has_code = refl; spelt = t.2 })

pub body_takes : (wire : Wire) (code : Option OpCode) (octets : List ℕ) (operation : Operation) → AreOctets octets → IsShort octets → operation_in wire code octets ≡ Some operation → SpellsBody wire code octets operation
unfolding operation_in
body_takes wire (Some Resolution) octets operation fits short e = resolution_takes wire octets operation fits e
body_takes wire (Some GetSiteInfo) octets operation fits short e = rw (sym (some_is (site_info octets) operation e)) (record { fits = record { short = short; each = fits }; has_code = refl; spelt = refl })
body_takes wire (Some CreateHandle) octets operation fits short e = write_takes wire (λ x. create x.0 x.1) (Some CreateHandle) octets operation (λ x h. record { fits = h; has_code = refl; spelt = refl }) fits e
body_takes wire (Some DeleteHandle) octets operation fits short e = handle_takes wire delete (Some DeleteHandle) octets operation (λ x h. record { fits = h; has_code = refl; spelt = refl }) fits e
body_takes wire (Some AddValue) octets operation fits short e = write_takes wire (λ x. add x.0 x.1) (Some AddValue) octets operation (λ x h. record { fits = h; has_code = refl; spelt = refl }) fits e
body_takes wire (Some RemoveValue) octets operation fits short e = remove_takes wire octets operation fits e
body_takes wire (Some ModifyValue) octets operation fits short e = write_takes wire (λ x. modify x.0 x.1) (Some ModifyValue) octets operation (λ x h. record { fits = h; has_code = refl; spelt = refl }) fits e
body_takes wire (Some ListHandles) octets operation fits short e = handle_takes wire list (Some ListHandles) octets operation (λ x h. record { fits = h; has_code = refl; spelt = refl }) fits e
body_takes wire (Some ChallengeResponse) octets operation fits short e = response_takes wire octets operation fits e
body_takes wire None octets operation fits short e = rw (sym (some_is (other octets) operation e)) (record { fits = record { short = short; each = fits }; has_code = refl; spelt = refl })

again_of : (wire : Wire) (operation : Operation) → OperationFits wire operation → operation_in wire (code_of operation) (body wire operation) ≡ Some operation
unfolding operation_in resolution_in with_values_in remove_in response_in
again_of wire (resolution handle indexes types) fits = seen_again _ _ _ (λ x. resolution x.0 x.1.0 x.1.1) resolution_codec (handle, (indexes, types)) fits
again_of wire (site_info octets) fits = refl
again_of wire (create handle values) fits = seen_again _ _ _ (λ x. create x.0 x.1) (write_codec wire) (handle, values) fits
again_of wire (delete handle) fits = seen_again string_at string IsString delete string_codec handle fits
again_of wire (add handle values) fits = seen_again _ _ _ (λ x. add x.0 x.1) (write_codec wire) (handle, values) fits
again_of wire (remove handle indexes) fits = seen_again _ _ _ (λ x. remove x.0 x.1) remove_codec (handle, indexes) fits
again_of wire (modify handle values) fits = seen_again _ _ _ (λ x. modify x.0 x.1) (write_codec wire) (handle, values) fits
again_of wire (list handle) fits = seen_again string_at string IsString list string_codec handle fits
again_of wire (response kind handle index answer) fits = seen_again _ _ _ (λ x. response x.0 x.1.0 x.1.1.0 x.1.1.1) response_codec (kind, (handle, (index, answer))) fits
again_of wire (other octets) fits = refl

-- ---- requests

pub request_takes : (wire : Wire) (octets : List ℕ) (c : Content) → AreOctets octets → request_at wire octets ≡ Some c → SpellsRequest wire octets c
unfolding request_at
request_takes wire octets c fits e =
    let m = bind_some (whole_of message_at octets) (λ m. operation_in wire (op_code_of m.0.0.op_code) m.0.1 >>= λ operation. Some (record { wire = wire; header = m.0.0; operation = operation })) c e in
    let o = bind_some (operation_in wire (op_code_of m.0.0.0.op_code) m.0.0.1) (λ operation. Some (record { wire = wire; header = m.0.0.0; operation = operation })) c m.2 in
    let t = whole_takes message_at message_layout.write MessageFits message_codec octets m.0 fits m.1 in
    let signed = AreOctets-front octets (header_octets m.0.0.0 ++ string m.0.0.1) (string m.0.1) fits t.0 in
    let inner = AreOctets-back _ (header_octets m.0.0.0) (string m.0.0.1) signed refl in
    let inside = AreOctets-back _ (number (length m.0.0.1)) m.0.0.1 inner refl in
    let b = body_takes wire (op_code_of m.0.0.0.op_code) m.0.0.1 o.0 inside t.1.0.1 o.1 in
    let made : Content = record { wire = wire; header = m.0.0.0; operation = o.0 } in
    let spelt : octets ≡ (header_octets m.0.0.0 ++ string (body wire o.0)) ++ string m.0.1 = rw (sym b.spelt) t.0 in
    let whole : SpellsRequest wire octets made = record {
      by_wire = refl;
      header_fits = t.1.0.0;
      operation_fits = b.fits;
      has_code = subst (λ (code : Option OpCode). IsNumberOf code m.0.0.0.op_code) (sym b.has_code) (op_code_is m.0.0.0.op_code);
      body_fits = rw (sym b.spelt) t.1.0.1;
      credential = m.0.1;
      credential_fits = t.1.1;
      spelt = spelt;
    } in
    subst (λ (d : Content). SpellsRequest wire octets d) (some_is made c o.2) whole

again_by : (octets : List ℕ) (c : Content) → SpellsRequest c.wire octets c → request_at c.wire octets ≡ Some c
unfolding request_at
again_by octets c s =
    let m : Message = ((c.header, body c.wire c.operation), s.credential) in
    let whole = whole_again message_at message_layout.write MessageFits message_codec m ((s.header_fits, s.body_fits), s.credential_fits) in
    let read : whole_of message_at octets ≡ Some m = ap (whole_of message_at) s.spelt ∙ whole in
    rw (read, op_code_again (code_of c.operation) c.header.op_code s.has_code, again_of c.wire c.operation s.operation_fits) refl

pub request_again : (wire : Wire) (octets : List ℕ) (c : Content) → SpellsRequest wire octets c → request_at wire octets ≡ Some c
request_again wire octets c s =
    let own : SpellsRequest c.wire octets c = subst (λ (w : Wire). SpellsRequest w octets c) (sym s.by_wire) s in
    subst (λ (w : Wire). request_at w octets ≡ Some c) s.by_wire (again_by octets c own)

pub rest_short : (octets rest text : List ℕ) (h : Header) → AreOctets octets → signed_at octets ≡ Some ((h, text), rest) → length rest ≤ length octets
rest_short octets rest text h fits e =
    (front octets (header_octets h ++ string text) rest (signed_codec.takes octets (h, text) rest fits e).0).0

pub signed_is : (wire : Wire) (octets rest text : List ℕ) (h : Header) (operation : Operation) → AreOctets octets → signed_at octets ≡ Some ((h, text), rest) → operation_in wire (op_code_of h.op_code) text ≡ Some operation
    → take (length octets - length rest) octets ≡ signed_octets (record { wire = wire; header = h; operation = operation })
signed_is wire octets rest text h operation fits e o =
    let t = signed_codec.takes octets (h, text) rest fits e in
    let f = front octets (header_octets h ++ string text) rest t.0 in
    let signed = AreOctets-front octets (header_octets h ++ string text) rest fits t.0.parts in
    let inner = AreOctets-back _ (header_octets h) (string text) signed refl in
    let inside = AreOctets-back _ (number (length text)) text inner refl in
    let b = body_takes wire (op_code_of h.op_code) text operation inside t.1.1 o in
    f.1 ∙ ap (λ (s : List ℕ). header_octets h ++ string s) b.spelt

-- ---- laws

pub one_request_lem : (wire : Wire) (octets : List ℕ) (c d : Content) → SpellsRequest wire octets c → SpellsRequest wire octets d → c ≡ d
one_request_lem wire octets c d p q = some_is c d (sym (request_again wire octets c p) ∙ request_again wire octets d q)

pub none_begins_another_lem : (wire : Wire) (octets rest more : List ℕ) (c d : Content) → SpellsRequest wire octets c → SpellsRequest wire more d → more ≡ octets ++ rest → (c ≡ d) × (rest ≡ [])
none_begins_another_lem wire octets rest more c d p q e =
    let m : Message = ((c.header, body c.wire c.operation), p.credential) in
    let n : Message = ((d.header, body d.wire d.operation), q.credential) in
    let joined : message_layout.write m ++ rest ≡ message_layout.write n ++ [] = ap (λ (x : List ℕ). x ++ rest) (sym p.spelt) ∙ sym e ∙ q.spelt ∙ sym (append-nil _) in
    let same = prefix_free message_at message_layout.write MessageFits message_codec m n rest [] ((p.header_fits, p.body_fits), p.credential_fits) ((q.header_fits, q.body_fits), q.credential_fits) joined in
    let whole : octets ≡ more = p.spelt ∙ ap message_layout.write same.0 ∙ sym q.spelt in
    (one_request_lem wire octets c d p (rw whole q), same.1)
