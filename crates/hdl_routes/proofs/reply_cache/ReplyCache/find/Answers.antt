use Rattle.std.proofs.Common.{ap, sym, ◌∙◌, option_copied}
use Rattle.hdl_routes.proofs.Replies.{copied_kept}
use Rattle.hdl_routes.proofs.reply_cache.ReplyCache.find.Goals as goal

pub returns-in-Some : goal.returns-in-Some
returns-in-Some c =
    copied_kept c.from_slice.result c.ok.result c.args.self.now.replies c.args.self.now.counts c.args.request.now c.args.now c.in-Some.fresh.now c.deref.result.now
    (sym (ap option_copied c.in-Some.is) ∙ c.get.ensures.value) (sym c.is_fresh.ensures ∙ c.if-is_fresh.true) c.deref.ensures.value c.from_slice.ensures.items c.ok.ensures.value
