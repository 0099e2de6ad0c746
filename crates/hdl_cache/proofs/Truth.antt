-- What is kept of a table stays the table's.
use Rattle.std.proofs.Common.{◌≡◌, ◌⊎◌, ℕ, true, List, Option, Some, None, inl, inr, sym, subst, eqb-true}
use Rattle.std.specs.Prelude.{bytes_eq, nat_eq, ◌&&◌, option_map, IfSome}
use Rattle.std.specs.Map.{lookup}
use Rattle.std.proofs.lemmas.Bool.{and_parts}
use Rattle.std.proofs.lemmas.Slice.Eq.{bytes_eq-Decides}
use Rattle.hdl_value.specs.declared.admin.AdminMask.{AdminMask}
use Rattle.hdl_rows.specs.Table.{Table}
use Rattle.hdl_reach.specs.Reach.{IsMask}
use Rattle.hdl_reach.specs.Views.{mask_of}
use Rattle.lru.specs.LruCache.{lru_cache, promoted}
use Rattle.lru.proofs.CallerLemmas.{Contains-lookup, Contains-promoted, Contains-put_entries}
use Rattle.hdl_cache.specs.Masks.{Subject, Kept, same_subject, with_mask, AreMasks}

-- what is asked for alike is the same
alike : (a b : Subject) → same_subject a b ≡ true → a ≡ b
alike a b h =
    let outer = and_parts (bytes_eq a.handle b.handle) (bytes_eq a.key.handle b.key.handle && nat_eq a.key.index b.key.index) h in
    let inner = and_parts (bytes_eq a.key.handle b.key.handle) (nat_eq a.key.index b.key.index) outer.1 in
    let handle = (bytes_eq-Decides a.handle b.handle).0 outer.0 in
    let key = (bytes_eq-Decides a.key.handle b.key.handle).0 inner.0 in
    let index = eqb-true a.key.index b.key.index inner.1 in
    λ i. record { handle = handle i; key = record { handle = key i; index = index i } }

-- what is found is the table's mask
mask_found : (t : Table) (kept : List Kept) (a : Subject) (o : Option (Option ℕ)) → AreMasks t kept → o ≡ lookup (same_subject a) kept → IfSome o (IsMask t a.handle a.key)
mask_found t kept a None all is = tt
mask_found t kept a (Some m) all is =
    let there = Contains-lookup (same_subject a) kept m (sym is) in
    subst (λ (b : Subject). IsMask t b.handle b.key m) (sym (alike a there.0 there.2)) (all (there.0, m) there.1)

pub found_true : (t : Table) (kept : List Kept) (a : Subject) (o : Option (Option AdminMask)) → AreMasks t kept → option_map mask_of o ≡ lookup (same_subject a) kept → IfSome o (λ m. IsMask t a.handle a.key (mask_of m))
found_true t kept a None all is = tt
found_true t kept a (Some m) all is = mask_found t kept a (Some (mask_of m)) all is

pub used_true : (t : Table) (kept : List Kept) (a : Subject) → AreMasks t kept → AreMasks t (promoted (same_subject a) kept)
used_true t kept a all e there = all e (Contains-promoted (same_subject a) kept e there)

pub put_true : (t : Table) (kept : List Kept) (a : Subject) (m : Option ℕ) → AreMasks t kept → IsMask t a.handle a.key m → AreMasks t (with_mask kept a m)
put_true t kept a m all mask e there = elim (Contains-put_entries same_subject (lru_cache kept 256) a m e there) [
  | inl was ↦ all e was
  | inr new ↦
      let same : a ≡ e.0 = elim new.1 [
        | inl is ↦ sym is
        | inr w ↦ alike a e.0 w.2
      ] in
      subst (λ n. IsMask t e.0.handle e.0.key n) (sym new.0) (subst (λ (b : Subject). IsMask t b.handle b.key m) same mask)
]

pub kept_true : (t : Table) (kept new : List Kept) (a : Subject) (m : Option ℕ) → (new ≡ kept) ⊎ (new ≡ with_mask kept a m) → AreMasks t kept → IsMask t a.handle a.key m → AreMasks t new
kept_true t kept new a m (inl is) all mask = subst (AreMasks t) (sym is) all
kept_true t kept new a m (inr is) all mask = subst (AreMasks t) (sym is) (put_true t kept a m all mask)
