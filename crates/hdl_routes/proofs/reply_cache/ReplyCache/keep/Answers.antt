use Rattle.std.proofs.Common.{refl}
use Rattle.hdl_routes.proofs.Replies.{put_keeps}
use Rattle.hdl_routes.proofs.reply_cache.ReplyCache.keep.Goals as goal

pub returns-clause-kept : goal.returns-clause-kept
returns-clause-kept c =
    put_keeps c.put.result c.args.self.now.replies c.put.new.self c.in-Ok.key (record { reply = c.in-Ok-from_slice.reply; until = c.saturating_add-until.result; mark = c.args.mark }) c.args.request.now c.args.reply.now c.args.mark c.args.now c.args.time
    c.put.ensures.entries c.put.ensures.err c.in-Ok.ensures.items c.in-Ok-from_slice.ensures.items refl c.saturating_add-until.ensures
