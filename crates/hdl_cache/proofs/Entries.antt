-- Entries of a map seen through functions of their keys and values.
use Rattle.std.proofs.Common.{◌≡◌, ℕ, Bool, true, false, cond, List, [], ◌∷◌, map, take, Option, Some, None, refl, ap, ◌-◌}
use Rattle.std.specs.Prelude.{option_map}
use Rattle.std.specs.Map.{lookup, lookup_entry, remove_entry}
use Rattle.std.specs.Option.{option_map_or}
use Rattle.std.proofs.lemmas.List.{take-map}
use Rattle.lru.specs.LruCache.{lru_cache, promoted, put_entries}

module _ {K V Q W : Type 0} (f : K → Q) (g : V → W) where
  abbrev pub seen : K × V → Q × W
  seen e = (f e.0, g e.1)

  module _ (test : K → Bool) (seen_test : Q → Bool) (same : (k : K) → seen_test (f k) ≡ test k) where
    pub lookup-seen : (es : List (K × V)) → lookup seen_test (map seen es) ≡ option_map g (lookup test es)
    lookup-seen [] = refl
    lookup-seen (e ∷ es) = rw (same e.0) (by (test e.0) (lookup-seen es))
      where
        by : (b : Bool) → lookup seen_test (map seen es) ≡ option_map g (lookup test es) → cond b (Some (g e.1)) (lookup seen_test (map seen es)) ≡ option_map g (cond b (Some e.1) (lookup test es))
        by true on = refl
        by false on = on

    pub lookup_entry-seen : (es : List (K × V)) → lookup_entry seen_test (map seen es) ≡ option_map seen (lookup_entry test es)
    lookup_entry-seen [] = refl
    lookup_entry-seen (e ∷ es) = rw (same e.0) (by (test e.0) (lookup_entry-seen es))
      where
        by : (b : Bool) → lookup_entry seen_test (map seen es) ≡ option_map seen (lookup_entry test es) → cond b (Some (seen e)) (lookup_entry seen_test (map seen es)) ≡ option_map seen (cond b (Some e) (lookup_entry test es))
        by true on = refl
        by false on = on

    pub remove_entry-seen : (es : List (K × V)) → remove_entry seen_test (map seen es) ≡ map seen (remove_entry test es)
    remove_entry-seen [] = refl
    remove_entry-seen (e ∷ es) = rw (same e.0) (by (test e.0) (remove_entry-seen es))
      where
        by : (b : Bool) → remove_entry seen_test (map seen es) ≡ map seen (remove_entry test es) → cond b (map seen es) (seen e ∷ remove_entry seen_test (map seen es)) ≡ map seen (cond b es (e ∷ remove_entry test es))
        by true on = refl
        by false on = ap (λ rest. seen e ∷ rest) on

    to_front : (es : List (K × V)) (o : Option (K × V))
        → option_map_or (λ e. e ∷ map seen (remove_entry test es)) (option_map seen o) (map seen es) ≡ map seen (option_map_or (λ e. e ∷ remove_entry test es) o es)
    to_front es None = refl
    to_front es (Some e) = refl

    -- the order after a use
    pub promoted-seen : (es : List (K × V)) → promoted seen_test (map seen es) ≡ map seen (promoted test es)
    promoted-seen es = rw (lookup_entry-seen es, remove_entry-seen es) (to_front es (lookup_entry test es))

  module _ (eq : K → K → Bool) (seen_eq : Q → Q → Bool) (k : K) (v : V) (same : (j : K) → seen_eq (f k) (f j) ≡ eq k j) where
    put : (es : List (K × V)) (n : ℕ) (o : Option (K × V))
        → option_map_or (λ e. (e.0, g v) ∷ map seen (remove_entry (eq k) es)) (option_map seen o) ((f k, g v) ∷ take n (map seen es))
        ≡ map seen (option_map_or (λ e. (e.0, v) ∷ remove_entry (eq k) es) o ((k, v) ∷ take n es))
    put es n None = ap (λ rest. (f k, g v) ∷ rest) (take-map seen n es)
    put es n (Some e) = refl

    -- the entries after a put
    pub put-seen : (es : List (K × V)) (n : ℕ) → put_entries seen_eq (lru_cache (map seen es) n) (f k) (g v) ≡ map seen (put_entries eq (lru_cache es n) k v)
    put-seen es n = rw (lookup_entry-seen (eq k) (seen_eq (f k)) same es, remove_entry-seen (eq k) (seen_eq (f k)) same es) (put es (n - 1) (lookup_entry (eq k) es))
