use Rattle.std.proofs.Common.{Bool, cond, Some, None, refl, sym, ap}
use Rattle.hdl_ops.proofs.Lengths.{room_left, no_room_left}
use Rattle.hdl_ops.proofs.rendering.fitting.Goals as goal

pub returns-then-reply_len-digest_room : goal.returns-then-reply_len-digest_room
returns-then-reply_len-digest_room c =
    ap (λ (b : Bool). cond b (Some c.args.content) None)
    (sym (no_room_left c.args.asked.now.algorithm c.args.asked.now.request.now _ c.reply_len.result c.digest_room.result refl c.reply_len.ensures c.digest_room.ensures.room c.digest_room.ensures.short c.if-reply_len-digest_room.true))

pub returns : goal.returns
returns c =
    ap (λ (b : Bool). cond b (Some c.args.content) None)
    (sym (room_left c.args.asked.now.algorithm c.args.asked.now.request.now _ c.reply_len.result c.digest_room.result refl c.reply_len.ensures c.digest_room.ensures.room c.digest_room.ensures.short c.if-reply_len-digest_room.false))
