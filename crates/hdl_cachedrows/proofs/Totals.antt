-- What each change of what is kept costs or gives back.
use Rattle.std.proofs.Common.{◌≡◌, ◌≤◌, ◌<◌, ◌+◌, ◌-◌, ◌^◌, ℕ, zero, suc, Bool, true, false, Vec, List, [], ◌∷◌, Option, Some, None, take, length, refl, sym, ap, ◌∙◌, subst, arith, get_or}
use Rattle.std.specs.Prelude.{slice_get}
use Rattle.std.specs.Option.{option_map_or}
use Rattle.std.specs.declared.alloc.Global.{Global}
use Rattle.std.specs.Map.{lookup, lookup_entry, remove_entry}
use Rattle.std.proofs.lemmas.List.{take_all}
use Rattle.std.proofs.lemmas.Option.{slice_get-get_or}
use Rattle.std.proofs.lemmas.List.Sums.{sum_by-cons}
use Rattle.hdl_cachedrows.specs.declared.cached_handle.CachedHandle.{CachedHandle}
use Rattle.lru.specs.LruCache.{lru_cache, IsValid, promoted, put_entries, displaced, last_entry}
use Rattle.hdl_cachedrows.specs.Cost.{Entry, kept_cost, entry_cost, total}
use Rattle.hdl_limits.specs.Counts.{at_most_u64}
use Rattle.hdl_cachedrows.proofs.Keys.{same_key, Lru}

-- what an entry that is let go gives back
abbrev pub given : Option Entry → ℕ
given None = 0
given (Some e) = entry_cost e

pub total-cons : (e : Entry) (es : List Entry) → total (e ∷ es) ≡ entry_cost e + total es
total-cons = sum_by-cons entry_cost

module _ (test : Vec ℕ Global → Bool) where
  pub total-remove_entry : (es : List Entry) → total (remove_entry test es) + given (lookup_entry test es) ≡ total es
  total-remove_entry [] = omega arith
  total-remove_entry (f ∷ es) = (elim (test f.0) as (λ b. test f.0 ≡ b → total (remove_entry test (f ∷ es)) + given (lookup_entry test (f ∷ es)) ≡ total (f ∷ es)) [
    | true ↦ λ is. rw is (omega (arith, total-cons f es))
    | false ↦ λ is. rw is (omega (arith, total-cons f es, total-cons f (remove_entry test es), total-remove_entry es))
  ]) refl

  promoted_total : (es : List Entry) (o : Option Entry) → lookup_entry test es ≡ o → total (option_map_or (λ e. e ∷ remove_entry test es) o es) ≡ total es
  promoted_total es None is = refl
  promoted_total es (Some e) is = omega (arith, total-cons e (remove_entry test es), rw is at (total-remove_entry es))

  -- a use
  pub total-promoted : (es : List Entry) → total (promoted test es) ≡ total es
  total-promoted es = promoted_total es (lookup_entry test es) refl

-- one more from the front
pub total-take : (i : ℕ) (es : List Entry) → total (take i es) + given (slice_get es i) ≡ total (take (suc i) es)
total-take zero [] = omega arith
total-take (suc i) [] = omega arith
total-take zero (e ∷ es) = omega arith
total-take (suc i) (e ∷ es) = omega (arith, total-cons e (take i es), total-cons e (take (suc i) es), total-take i es)

whole : (es : List Entry) (n : ℕ) → length es ≤ n → total (take n es) ≡ total es
whole es n long = ap total (take_all n es long)

-- the least recently used one goes
pub total-pop : (es : List Entry) → total (take (length es - 1) es) + given (last_entry es) ≡ total es
total-pop [] = omega arith
total-pop (e ∷ es) = total-take (length (e ∷ es) - 1) (e ∷ es) ∙ whole (e ∷ es) (suc (length (e ∷ es) - 1)) (omega arith)

module _ (c : Lru) (k : Vec ℕ Global) (v : CachedHandle) where
  -- the value that is looked up is that of the entry
  found : (es : List Entry) → lookup (same_key k) es ≡ option_map_or (λ e. Some e.1) (lookup_entry (same_key k) es) None
  found [] = refl
  found (f ∷ es) = (elim (same_key k f.0) as (λ b. same_key k f.0 ≡ b → lookup (same_key k) (f ∷ es) ≡ option_map_or (λ e. Some e.1) (lookup_entry (same_key k) (f ∷ es)) None) [
    | true ↦ λ is. rw is
    | false ↦ λ is. rw is (found es)
  ]) refl

  push_total : length c.entries ≤ c.cap → 0 < c.cap → (o : Option Entry) → lookup_entry (same_key k) c.entries ≡ o
      → total (option_map_or (λ e. (e.0, v) ∷ remove_entry (same_key k) c.entries) o ((k, v) ∷ take (c.cap - 1) c.entries))
      + given (option_map_or (λ w. Some (k, w)) (option_map_or (λ (e : Entry). Some e.1) o None) (slice_get c.entries (c.cap - 1))) ≡ total c.entries + entry_cost (k, v)
  push_total fits some None is =
      omega (arith, total-cons (k, v) (take (c.cap - 1) c.entries), total-take (c.cap - 1) c.entries, whole c.entries (suc (c.cap - 1)) (omega arith))
  push_total fits some (Some e) is =
      omega (arith, total-cons (e.0, v) (remove_entry (same_key k) c.entries), rw is at (total-remove_entry (same_key k) c.entries))

  -- a push, which displaces the values of the same handle, or where the room is full the last entry
  pub total-push : length c.entries ≤ c.cap → 0 < c.cap → total (put_entries same_key c k v) + given (displaced same_key c k v) ≡ total c.entries + entry_cost (k, v)
  total-push fits some = subst (λ o. total (put_entries same_key c k v) + given (option_map_or (λ w. Some (k, w)) o (slice_get c.entries (c.cap - 1))) ≡ total c.entries + entry_cost (k, v))
      (sym (found c.entries)) (push_total fits some (lookup_entry (same_key k) c.entries) refl)

  pub total-put : (new : Lru) → IsValid same_key c → new ≡ lru_cache (put_entries same_key c k v) c.cap → total new.entries + given (displaced same_key c k v) ≡ total c.entries + entry_cost (k, v)
  total-put new valid is = subst (λ (x : Lru). total x.entries + given (displaced same_key c k v) ≡ total c.entries + entry_cost (k, v)) (sym is) (total-push valid.1 valid.2)

-- what the count is once an entry was let go
pub let_go : (o : Option Entry) (e : Entry) (h : List ℕ) (old rest paid : ℕ)
    → old < 2 ^ 64 → rest + given o ≡ old → o ≡ Some e → h ≡ e.0.items → paid ≡ at_most_u64 (kept_cost h e.1)
    → (paid ≤ old) × (old - paid ≡ rest) × (0 < paid)
let_go o e h old rest paid fits rests is name pays =
    let back : given o ≡ entry_cost e = ap given is in
    let pay : paid ≡ at_most_u64 (entry_cost e) = subst (λ g. paid ≡ at_most_u64 (kept_cost g e.1)) name pays in
    (omega arith, omega arith, omega arith)

some_last : (e : Entry) (es : List Entry) → last_entry (e ∷ es) ≡ None → ⊥
some_last e es is =
    let there : slice_get (e ∷ es) (length es) ≡ Some (get_or (e ∷ es) (length es) e) = slice_get-get_or (e ∷ es) (length es) e (omega arith) in
    let at : length (e ∷ es) - 1 ≡ length es = omega arith in
    let none : slice_get (e ∷ es) (length es) ≡ None = sym (ap (slice_get (e ∷ es)) at) ∙ is in
    cc

-- where none is the least recently used there is none
pub total-none : (es : List Entry) → last_entry es ≡ None → total es ≡ 0
total-none [] is = refl
total-none (e ∷ es) is = absurd (some_last e es is)
