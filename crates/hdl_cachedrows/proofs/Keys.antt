-- Which handle a key is.
use Rattle.std.proofs.Common.{◌≡◌, ℕ, Bool, true, Vec, List}
use Rattle.std.specs.Prelude.{bytes_eq}
use Rattle.std.specs.declared.alloc.Global.{Global}
use Rattle.hdl_cachedrows.specs.declared.cached_handle.CachedHandle.{CachedHandle}
use Rattle.lru.specs.LruCache.{LruCache}
use Rattle.std.proofs.lemmas.Slice.Eq.{bytes_eq-Decides}

-- whether a key is this handle, and whether two keys are one
abbrev pub is_key : List ℕ → Vec ℕ Global → Bool
is_key h k = bytes_eq h k.items

abbrev pub same_key : Vec ℕ Global → Vec ℕ Global → Bool
same_key j k = bytes_eq j.items k.items

pub same : (g h : List ℕ) → bytes_eq g h ≡ true → g ≡ h
same g h = (bytes_eq-Decides g h).0

pub alike : (g h : List ℕ) → g ≡ h → bytes_eq g h ≡ true
alike g h = (bytes_eq-Decides g h).1

-- the cache, as `lru` shows it
abbrev pub Lru : Type 0
Lru = LruCache (Vec ℕ Global) CachedHandle
