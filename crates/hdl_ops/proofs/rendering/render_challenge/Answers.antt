use Rattle.std.proofs.Common.{arith, refl, rules, subst, sym, length, ◌≡◌, ◌≤◌, Some}
use Rattle.hdl_auth.specs.declared.algorithm.Digest.{Digest}
use Rattle.hdl_auth.specs.Digest.{digest_spelling}
use Rattle.hdl_auth.proofs.Digests.{digest_short}
use Rattle.hdl_msg.specs.declared.fields.Header.{Header}
use Rattle.hdl_msg.specs.declared.replies.ReplyContent.TheVariants.{Nonce}
use Rattle.hdl_msg.specs.Reply.{ReplyParts, IsAnnounced}
use Rattle.hdl_value.specs.declared.wire.Wire.TheVariants.{Profile}
use Rattle.hdl_ops.specs.Replies.{challenge_to, reply_header}
use Rattle.hdl_ops.proofs.Announced.{challenge_announced_lem}
use Rattle.hdl_ops.proofs.Lengths.{challenge_short}
use Rattle.hdl_ops.proofs.rendering.render_challenge.Goals as goal

pub write_reply-requires : goal.write_reply-requires
write_reply-requires c =
    let digest : length (digest_spelling c.digest-request_digest.result) ≤ 33 = subst (λ (d : Digest). length (digest_spelling d) ≤ 33) (sym c.digest-request_digest.ensures) (digest_short c.args.asked.now.algorithm _) in
    challenge_short _ c.digest-request_digest.result c.args.nonce.now refl refl digest (omega (arith, c.told-nonce))

pub returns-clause-read : goal.returns-clause-read
unfolding challenge_to
returns-clause-read c =
    let header : c.reply_header.result ≡ reply_header c.args.moment c.args.asked.now.request.now 402 = search rules in
    let announced = challenge_announced_lem c.args.asked.now.algorithm c.args.moment c.args.envelope.now.session c.args.envelope.now.request c.args.asked.now.request.now c.args.nonce.now in
    let parts : Header → ReplyParts = λ h. record { header = h; digest = Some c.digest-request_digest.result; content = Nonce c.args.nonce.now } in
    (Profile, parts c.reply_header.result, c.in_ok-octets.ensures.read (subst (λ (h : Header). IsAnnounced (parts h)) (sym header) (record { digest = announced.digest; form = announced.form })))
