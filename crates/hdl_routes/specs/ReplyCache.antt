-- What is kept of replies.
use Rattle.std.specs.Prelude.{◌≡◌, ◌&&◌, ◌⊎◌, ℕ, Bool, true, false, Vec, List, Option, Some, None, nat_lt}
use Rattle.std.specs.Str.{bytes_eq}
use Rattle.std.specs.Map.{lookup}
use Rattle.std.specs.declared.alloc.Global.{Global}
use Rattle.lru.specs.LruCache.{LruCache, lru_cache, put_entries}
use Rattle.hdl_routes.specs.declared.changes.ChangeMark.{ChangeMark}
use Rattle.hdl_routes.specs.declared.reply_cache.CachedReply.{CachedReply}
use Rattle.hdl_routes.specs.Changes.{is_current}
use Rattle.hdl_routes.specs.ServerHealth.{later}

-- replies by their requests
abbrev pub Replies : Type 0
Replies = LruCache (Vec ℕ Global) CachedReply

abbrev pub is_request : List ℕ → Vec ℕ Global → Bool
is_request request key = bytes_eq request key.items

abbrev pub same_request : Vec ℕ Global → Vec ℕ Global → Bool
same_request one other = bytes_eq one.items other.items

-- it is fresh: its time isn't over, and its handle wasn't changed since it was asked for
abbrev pub is_fresh : List ℕ → ℕ → CachedReply → Bool
is_fresh counts now fresh = nat_lt now fresh.until && is_current counts fresh.mark

-- the reply is kept under this request, and is fresh at this moment
abbrev pub IsKept : Replies → List ℕ → List ℕ → ℕ → List ℕ → Type 0
IsKept replies counts request now reply =
    (fresh : CachedReply) × (lookup (is_request request) replies.entries ≡ Some fresh) × (fresh.reply.items ≡ reply) × (is_fresh counts now fresh ≡ true)

-- just this reply is the one that is kept, and it is fresh at this moment
abbrev pub is_held : List ℕ → List ℕ → ℕ → Option CachedReply → Bool
is_held counts reply now None = false
is_held counts reply now (Some fresh) = is_fresh counts now fresh && bytes_eq fresh.reply.items reply

-- this reply, which was asked for behind this mark, is kept under this request for so long from this moment on, or nothing changes
abbrev pub Keeps : Replies → Replies → List ℕ → List ℕ → ChangeMark → ℕ → ℕ → Type 0
Keeps old new request reply mark now time =
    (new ≡ old)
    ⊎ ((key : Vec ℕ Global) × (fresh : CachedReply) × (key.items ≡ request) × (fresh.reply.items ≡ reply) × (fresh.mark ≡ mark) × (fresh.until ≡ later now time)
    × (new ≡ lru_cache (put_entries same_request old key fresh) old.cap))
