-- The code's entries and what is seen of them, through each call of the map.
use Rattle.std.proofs.Common.{refl, ◌≡◌, ℕ, Bool, List, Option, Result, Ok, Err, OnOk, OnErr, ◌⊎◌, inl, inr, sym, ap, ◌∙◌}
use Rattle.std.specs.Prelude.{option_map}
use Rattle.std.specs.Map.{lookup}
use Rattle.hdl_value.specs.declared.admin.AdminMask.{AdminMask}
use Rattle.hdl_reach.specs.Views.{mask_of}
use Rattle.lru.specs.LruCache.{LruCache, lru_cache, promoted, put_entries}
use Rattle.hdl_cache.specs.declared.mask_key.MaskKey.{MaskKey}
use Rattle.hdl_cache.specs.Masks.{Subject, Kept, same_subject, with_mask, subject_of, kept_in}
use Rattle.hdl_cache.proofs.Entries.{lookup-seen, promoted-seen, put-seen}

-- the derived equality of pairs
abbrev pub same_pair : MaskKey → MaskKey → Bool
same_pair p q = same_subject (subject_of p) (subject_of q)

module _ (kept : List Kept) (p : MaskKey) (a : Subject) (is : subject_of p ≡ a) where
  pub found : (es : List (MaskKey × Option AdminMask)) (o : Option (Option AdminMask)) → kept_in es ≡ kept → o ≡ lookup (same_pair p) es → option_map mask_of o ≡ lookup (same_subject a) kept
  found es o view e = ap (option_map mask_of) e ∙ sym (lookup-seen subject_of mask_of (same_pair p) (same_subject (subject_of p)) (λ q. refl) es) ∙ (λ i. lookup (same_subject (is i)) (view i))

  pub used : (es : List (MaskKey × Option AdminMask)) → kept_in es ≡ kept → kept_in (promoted (same_pair p) es) ≡ promoted (same_subject a) kept
  used es view = sym (promoted-seen subject_of mask_of (same_pair p) (same_subject (subject_of p)) (λ q. refl) es) ∙ (λ i. promoted (same_subject (is i)) (view i))

  put : (es : List (MaskKey × Option AdminMask)) (cap : ℕ) (m : Option AdminMask) → kept_in es ≡ kept → cap ≡ 256 → kept_in (put_entries same_pair (lru_cache es cap) p m) ≡ with_mask kept a (mask_of m)
  put es cap m view most = sym (put-seen subject_of mask_of same_pair same_subject p m (λ q. refl) es cap) ∙ (λ i. put_entries same_subject (lru_cache (view i) (most i)) (is i) (mask_of m))

  -- what is kept after a mask was put, or after that was refused
  pub kept_or_not : {X E : Type 0} (r : Result X E) (old new : LruCache MaskKey (Option AdminMask)) (m : Option AdminMask)
      → OnOk r (new ≡ lru_cache (put_entries same_pair old p m) old.cap) → OnErr r (new ≡ old) → kept_in old.entries ≡ kept → old.cap ≡ 256
      → (kept_in new.entries ≡ kept) ⊎ (kept_in new.entries ≡ with_mask kept a (mask_of m))
  kept_or_not (Ok x) old new m done undone view most = inr (ap (λ (c : LruCache MaskKey (Option AdminMask)). kept_in c.entries) done ∙ put old.entries old.cap m view most)
  kept_or_not (Err x) old new m done undone view most = inl (ap (λ (c : LruCache MaskKey (Option AdminMask)). kept_in c.entries) undone ∙ view)
