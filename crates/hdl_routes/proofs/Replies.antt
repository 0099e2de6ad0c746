-- What is kept of replies, put and found.
use Rattle.std.proofs.Common.{◌≡◌, ℕ, true, Vec, List, Option, Some, Result, Ok, Err, OnOk, OnErr, IfOk, IfSome, inl, inr, sym, subst, ◌∙◌}
use Rattle.std.specs.declared.alloc.Global.{Global}
use Rattle.std.specs.Result.{result_ok}
use Rattle.std.specs.Map.{lookup}
use Rattle.lru.specs.LruCache.{lru_cache, put_entries}
use Rattle.hdl_routes.specs.declared.changes.ChangeMark.{ChangeMark}
use Rattle.hdl_routes.specs.declared.reply_cache.CachedReply.{CachedReply}
use Rattle.hdl_routes.specs.ServerHealth.{later}
use Rattle.hdl_routes.specs.ReplyCache.{Replies, is_request, same_request, is_fresh, IsKept, Keeps}

-- a reply was put, or memory was refused
pub put_keeps : {X E : Type 0} (r : Result X E) (old new : Replies) (key : Vec ℕ Global) (fresh : CachedReply) (request reply : List ℕ) (mark : ChangeMark) (now time : ℕ)
    → OnOk r (new ≡ lru_cache (put_entries same_request old key fresh) old.cap) → OnErr r (new ≡ old) → key.items ≡ request → fresh.reply.items ≡ reply → fresh.mark ≡ mark
    → fresh.until ≡ later now time → Keeps old new request reply mark now time
put_keeps (Ok x) old new key fresh request reply mark now time done undone is copy marked until = inr (key, fresh, is, copy, marked, until, done)
put_keeps (Err e) old new key fresh request reply mark now time done undone is copy marked until = inl undone

-- a copy of what was found
pub copied_kept : {E : Type 0} (r : Result (Vec ℕ Global) E) (o : Option (Vec ℕ Global)) (replies : Replies) (counts request : List ℕ) (now : ℕ) (fresh : CachedReply) (found : List ℕ)
    → Some fresh ≡ lookup (is_request request) replies.entries → is_fresh counts now fresh ≡ true → found ≡ fresh.reply.items → IfOk r (λ v. v.items ≡ found) → o ≡ result_ok r
    → IfSome o (λ v. IsKept replies counts request now v.items)
copied_kept (Ok v) o replies counts request now fresh found is before same copy given =
    subst (λ (p : Option (Vec ℕ Global)). IfSome p (λ x. IsKept replies counts request now x.items)) (sym given) (fresh, sym is, sym (copy ∙ same), before)
copied_kept (Err e) o replies counts request now fresh found is before same copy given =
    subst (λ (p : Option (Vec ℕ Global)). IfSome p (λ x. IsKept replies counts request now x.items)) (sym given) tt
