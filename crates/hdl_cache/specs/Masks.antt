-- Cached masks, and when they are those of a table.
use Rattle.std.specs.Prelude.{ℕ, List, Bool, ◌&&◌, bytes_eq, nat_eq, map, Option, Contains}
use Rattle.hdl_limits.specs.declared.TheConstants.{MASKS_MAX}
use Rattle.hdl_value.specs.Place.{Place}
use Rattle.hdl_value.specs.declared.admin.AdminMask.{AdminMask}
use Rattle.hdl_rows.specs.Table.{Table}
use Rattle.hdl_reach.specs.Reach.{IsMask}
use Rattle.hdl_reach.specs.Views.{mask_of}
use Rattle.lru.specs.LruCache.{lru_cache, put_entries}
use Rattle.hdl_cache.specs.declared.mask_key.MaskKey.{MaskKey}

-- the key whose mask is cached, and the handle for which
pub record Subject : Type 0 where
  pub handle : List ℕ
  pub key : Place

abbrev pub subject : List ℕ → Place → Subject
subject h k = record { handle = h; key = k }

-- a cached mask, or that there is none
abbrev pub Kept : Type 0
Kept = Subject × Option ℕ

-- the same handle and the same key
abbrev pub same_subject : Subject → Subject → Bool
same_subject a b = bytes_eq a.handle b.handle && (bytes_eq a.key.handle b.key.handle && nat_eq a.key.index b.key.index)

abbrev pub is_subject : List ℕ → Place → Subject → Bool
is_subject h k = same_subject (subject h k)

-- one more, the most recently used; if the cache is full, the least recently used is dropped
abbrev pub with_mask : List Kept → Subject → Option ℕ → List Kept
with_mask kept a m = put_entries same_subject (lru_cache kept MASKS_MAX) a m

-- the cached masks are the table's
abbrev pub AreMasks : Table → List Kept → Type 0
AreMasks t kept = (e : Kept) → Contains kept e → IsMask t e.0.handle e.0.key e.1

-- ---- the code's entries, as they are seen

abbrev pub subject_of : MaskKey → Subject
subject_of p = subject p.handle.items (record { handle = p.key.items; index = p.index })

abbrev pub kept_in : List (MaskKey × Option AdminMask) → List Kept
kept_in es = map (λ e. (subject_of e.0, mask_of e.1)) es
