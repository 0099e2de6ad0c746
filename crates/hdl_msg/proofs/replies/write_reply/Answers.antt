use Rattle.std.proofs.Common.{List, ℕ, arith, rules, subst, sym}
use Rattle.hdl_msg.specs.Reply.{reply_parts, parts_read, wire_of_content, FramesReply}
use Rattle.hdl_msg.proofs.Written.{length-reply_message, content_short, reply_written}
use Rattle.hdl_msg.proofs.ReplyReadings.{reply_read_back}
use Rattle.hdl_msg.proofs.replies.write_reply.Goals as goal

pub overflow_sub-len : goal.overflow_sub-len
overflow_sub-len c = omega (arith, c.reply_len-len.ensures, c.requires, length-reply_message c.args.reply.now)

pub put_content-requires : goal.put_content-requires
put_content-requires c = content_short c.args.reply.now c.requires

pub reply_fits-requires : goal.reply_fits-requires
reply_fits-requires c = content_short c.args.reply.now c.requires

pub returns-clause-octets : goal.returns-clause-octets
returns-clause-octets c =
    reply_written c.to_octets.result _ _ _ _ _ _ c.args.reply.now c.reply_len-len.result (omega (arith, c.reply_len-len.ensures, c.requires)) (search rules) (search rules)
    c.in_ok-put_header.ensures c.in_ok-put_u32.ensures c.in_ok-put_digest.ensures c.in_ok-put_content.ensures c.in_ok-put_u32-2.ensures

pub returns-clause-read : goal.returns-clause-read
returns-clause-read c = λ announced.
    subst (λ (octets : List ℕ). FramesReply (wire_of_content c.args.reply.now.content) octets (parts_read (reply_parts c.args.reply.now))) (sym (returns-clause-octets c))
    (reply_read_back c.args.reply.now c.reply_fits.ensures announced c.requires)
