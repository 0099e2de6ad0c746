use Rattle.std.proofs.Common.{refl}
use Rattle.hdl_msg.specs.Codes.{response_number}
use Rattle.hdl_msg.specs.declared.replies.Reply.{Reply}
use Rattle.hdl_ops.specs.Replies.{reply_to}
use Rattle.hdl_ops.proofs.Lengths.{fits_anywhere}
use Rattle.hdl_ops.proofs.Rendered.{reads}
use Rattle.hdl_ops.proofs.rendering.render.Goals as goal

pub write_reply-requires : goal.write_reply-requires
unfolding reply_to
write_reply-requires c =
    rw (c.reply_header.ensures, c.asked_digest.ensures)
    (fits_anywhere c.args.asked.now.algorithm c.args.moment c.args.envelope.now.session c.args.envelope.now.request c.args.asked.now.request.now c.number.result c.args.content c.requires.fits)

pub returns-clause-read : goal.returns-clause-read
unfolding reply_to
returns-clause-read c =
    let e = c.args.envelope.now in
    let made : Reply = record { session = e.session; request = e.request; header = c.reply_header.result; digest = c.asked_digest.result; content = c.args.content } in
    reads (λ v. v.items) c.write_reply.result made
    (reply_to c.args.asked.now.algorithm c.args.moment c.args.envelope.now.session c.args.envelope.now.request c.args.asked.now.request.now (response_number c.args.code) c.args.content)
    (rw (c.reply_header.ensures, c.asked_digest.ensures, c.number.ensures) refl)
    c.write_reply.ensures.read
