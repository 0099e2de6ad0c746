-- The publishers of a prefix, as they are found and as the hostings give them.
use Rattle.std.proofs.Common.{◌≡◌, ◌++◌, ◌∷◌, [], List, ℕ, zero, suc, ◌<◌, ◌==◌, ◌&&◌, ◌||◌, Bool, true, false, cond, length, map, filter, Contains, Option, Some, None, Vec, unwrap_or, arith, sym, ap, ◌∙◌, true≢false, refl, inl, inr, append-nil, ◌↔◌, IsTrue, not, eqb-true}
use Rattle.std.specs.Prelude.{find, is_some, option_copied}
use Rattle.std.specs.Borrow.{Bor}
use Rattle.std.specs.Option.{option_map, option_map_or}
use Rattle.std.specs.Str.{bytes_eq}
use Rattle.std.specs.Map.{lookup}
use Rattle.indexmap.specs.IndexMap.{insert_entry}
use Rattle.std.proofs.lemmas.List.Elements.{Contains-append_cases, Contains-push_cases}
use Rattle.std.proofs.lemmas.Slice.Eq.{bytes_eq-Decides}
use Rattle.hdl_auth.specs.declared.algorithm.Algorithm.{Algorithm}
use Rattle.hdl_auth.specs.declared.algorithm.Algorithm.TheVariants.{Sha1}
use Rattle.hdl_tenants.specs.declared.prefixes.Host.{Host}
use Rattle.hdl_tenants.specs.Register.{Hosting, prefixes_of, hosts_among, algorithm_among}
use Rattle.hdl_tenants.specs.Record.{host_in, hosts_of, KeepsHostings}
use Rattle.hdl_tenants.proofs.Distinct.{Contains-later}
use Rattle.hdl_tenants.proofs.Places.{lookup-insert}

module _ (prefix : List ℕ) where
  -- those of one hosting more, by whether it is the prefix's
  pub hosts-cons : (h : Hosting) (hs : List Hosting) → hosts_of prefix (h ∷ hs) ≡ cond (bytes_eq prefix h.prefix) (host_in h ∷ hosts_of prefix hs) (hosts_of prefix hs)
  hosts-cons h hs = by (bytes_eq prefix h.prefix)
    where
      others : List Hosting
      others = filter (λ x. bytes_eq prefix x.prefix) hs

      by : (b : Bool) → map host_in (cond b (h ∷ others) others) ≡ cond b (host_in h ∷ map host_in others) (map host_in others)
      by true = refl
      by false = refl

  pub hosts-push : (hs : List Hosting) (h : Hosting) → hosts_of prefix (hs ++ h ∷ []) ≡ hosts_of prefix hs ++ cond (bytes_eq prefix h.prefix) (host_in h ∷ []) []
  hosts-push [] h = hosts-cons h []
  hosts-push (g ∷ hs) h =
      hosts-cons g (hs ++ h ∷ [])
      ∙ by (hosts_of prefix hs) (cond (bytes_eq prefix h.prefix) (host_in h ∷ []) []) (bytes_eq prefix g.prefix) (hosts-push hs h)
      ∙ ap (λ us. us ++ cond (bytes_eq prefix h.prefix) (host_in h ∷ []) []) (sym (hosts-cons g hs))
    where
      by : {us : List Host} (vs more : List Host) (b : Bool) → us ≡ vs ++ more → cond b (host_in g ∷ us) us ≡ cond b (host_in g ∷ vs) vs ++ more
      by vs more true e = ap (λ xs. host_in g ∷ xs) e
      by vs more false e = e

  -- one of them is the publisher just where the prefix is hosted for it
  pub hosts_listed : (hs : List Hosting) (u : ℕ) → is_some (find (λ v. v.publisher == u) (hosts_of prefix hs)) ≡ hosts_among hs u prefix
  hosts_listed [] u = refl
  hosts_listed (h ∷ hs) u =
      ap (λ vs. is_some (find (λ v. v.publisher == u) vs)) (hosts-cons h hs)
      ∙ spread (bytes_eq prefix h.prefix) (hosts_of prefix hs)
      ∙ by (bytes_eq prefix h.prefix) (h.publisher == u) (find (λ v. v.publisher == u) (hosts_of prefix hs)) (hosts_among hs u prefix) (hosts_listed hs u)
    where
      spread : (b : Bool) (vs : List Host) → is_some (find (λ v. v.publisher == u) (cond b (host_in h ∷ vs) vs))
          ≡ cond b (is_some (cond (h.publisher == u) (Some (host_in h)) (find (λ v. v.publisher == u) vs))) (is_some (find (λ v. v.publisher == u) vs))
      spread true vs = refl
      spread false vs = refl

      by : (b c : Bool) (x : Option Host) (y : Bool) → is_some x ≡ y → cond b (is_some (cond c (Some (host_in h)) x)) (is_some x) ≡ ((c && b) || y)
      by true true x y e = refl
      by true false x y e = e
      by false true x y e = e
      by false false x y e = e

  -- and its hash function there is that of the prefix
  abbrev hash_of : Option Host → Algorithm
  hash_of o = option_map_or (λ h. h.algorithm) o Sha1

  abbrev hash_given : Option Hosting → Algorithm
  hash_given o = option_map_or (λ h. h.algorithm) o Sha1

  pub hashes_listed : (hs : List Hosting) (u : ℕ) → hash_of (find (λ v. v.publisher == u) (hosts_of prefix hs)) ≡ algorithm_among hs u prefix
  hashes_listed [] u = refl
  hashes_listed (h ∷ hs) u =
      ap (λ vs. hash_of (find (λ v. v.publisher == u) vs)) (hosts-cons h hs)
      ∙ spread (bytes_eq prefix h.prefix) (hosts_of prefix hs)
      ∙ by (bytes_eq prefix h.prefix) (h.publisher == u) (find (λ v. v.publisher == u) (hosts_of prefix hs)) (find (λ x. (x.publisher == u) && bytes_eq prefix x.prefix) hs) (hashes_listed hs u)
    where
      spread : (b : Bool) (vs : List Host) → hash_of (find (λ v. v.publisher == u) (cond b (host_in h ∷ vs) vs))
          ≡ cond b (hash_of (cond (h.publisher == u) (Some (host_in h)) (find (λ v. v.publisher == u) vs))) (hash_of (find (λ v. v.publisher == u) vs))
      spread true vs = refl
      spread false vs = refl

      by : (b c : Bool) (x : Option Host) (y : Option Hosting) → hash_of x ≡ hash_given y → cond b (hash_of (cond c (Some (host_in h)) x)) (hash_of x) ≡ hash_given (cond (c && b) (Some h) y)
      by true true x y e = refl
      by true false x y e = e
      by false true x y e = e
      by false false x y e = e

  -- there are some just where the prefix is hosted
  pub listed_there : (hs : List Hosting) → 0 < length (hosts_of prefix hs) → Contains (prefixes_of hs) prefix
  listed_there [] some = absurd (omega (arith, some))
  listed_there (h ∷ hs) some = by (bytes_eq prefix h.prefix) refl (listed_there hs)
    where
      by : (b : Bool) → bytes_eq prefix h.prefix ≡ b → (0 < length (hosts_of prefix hs) → Contains (prefixes_of hs) prefix) → Contains (prefixes_of (h ∷ hs)) prefix
      by true t later = (0, omega arith, sym ((bytes_eq-Decides prefix h.prefix).0 t))
      by false t later = Contains-later h.prefix (prefixes_of hs) prefix (later (rw (hosts-cons h hs, t) at some))

  pub there_listed : (hs : List Hosting) → Contains (prefixes_of hs) prefix → 0 < length (hosts_of prefix hs)
  there_listed [] there = absurd (omega (arith, there.1))
  there_listed (h ∷ hs) there = by (bytes_eq prefix h.prefix) refl (there_listed hs)
    where
      by : (b : Bool) → bytes_eq prefix h.prefix ≡ b → (Contains (prefixes_of hs) prefix → 0 < length (hosts_of prefix hs)) → 0 < length (hosts_of prefix (h ∷ hs))
      by true t later = rw (hosts-cons h hs, t) (omega arith)
      by false t later = elim (Contains-append_cases (h.prefix ∷ []) (prefixes_of hs) prefix there) [
        | inl first ↦ elim (Contains-push_cases [] h.prefix prefix first) [
          | inl none ↦ absurd (omega (arith, none.1))
          | inr same ↦ absurd (true≢false (sym ((bytes_eq-Decides prefix h.prefix).1 (sym same)) ∙ t))
        ]
        | inr other ↦ rw (hosts-cons h hs, t) (later other)
      ]

pub some_copied : (o : Option (Bor Host)) → is_some o ≡ is_some (option_copied o)
some_copied None = refl
some_copied (Some h) = refl

-- what is found by a prefix, by what its look-up gives
pub found_some : {Z : Type 0} (publishers : Vec Host Z) (o : Option (Vec Host Z)) → o ≡ Some publishers → unwrap_or (option_map (λ us. us.items) o) [] ≡ publishers.items
found_some publishers o e = ap (λ x. unwrap_or (option_map (λ us. us.items) x) []) e

pub found_none : {Z : Type 0} (o : Option (Vec Host Z)) → o ≡ None → unwrap_or (option_map (λ us. us.items) o) [] ≡ []
found_none o e = ap (λ x. unwrap_or (option_map (λ us. us.items) x) []) e

-- what is kept with one hosting more
pub kept_push : {Z : Type 0} (entries : List (Vec ℕ Z × Vec Host Z)) (hs : List Hosting) (key : Vec ℕ Z) (publishers : Vec Host Z) (h : Hosting) → key.items ≡ h.prefix → publishers.items ≡ hosts_of h.prefix hs ++ host_in h ∷ []
    → KeepsHostings entries hs → KeepsHostings (insert_entry (λ a b. bytes_eq a.items b.items) entries key publishers) (hs ++ h ∷ [])
kept_push {Z} entries hs key publishers h same listed kept = record {
  found = λ q. ap (λ o. unwrap_or (option_map (λ us. us.items) o) []) (lookup-insert (λ (k : Vec ℕ Z). k.items) q key publishers entries) ∙ by q (bytes_eq q key.items) refl ∙ sym (hosts-push q hs h);
}
  where
    by : (q : List ℕ) (b : Bool) → bytes_eq q key.items ≡ b
        → unwrap_or (option_map (λ us. us.items) (cond b (Some publishers) (lookup (λ k. bytes_eq q k.items) entries))) [] ≡ hosts_of q hs ++ cond (bytes_eq q h.prefix) (host_in h ∷ []) []
    by q true t =
        let own : q ≡ h.prefix = (bytes_eq-Decides q key.items).0 t ∙ same in
        let test : bytes_eq q h.prefix ≡ true = (bytes_eq-Decides q h.prefix).1 own in
        rw test (listed ∙ ap (λ p. hosts_of p hs ++ host_in h ∷ []) (sym own))
    by q false t =
        let test : bytes_eq q h.prefix ≡ false = ap (bytes_eq q) (sym same) ∙ t in
        rw test (kept.found q ∙ sym (append-nil (hosts_of q hs)))

some_of : (n : ℕ) → false ≡ (n == 0) → 0 < n
some_of zero e = absurd (true≢false (sym e))
some_of (suc n) e = omega arith

-- a prefix of which these publishers are found is hosted just where there are some
pub some_hosted : (prefix : List ℕ) (hs : List Hosting) (us : List Host) (n : ℕ) (empty : Bool) → us ≡ hosts_of prefix hs → n ≡ length us → empty ≡ (n == 0) → IsTrue (not empty) ↔ Contains (prefixes_of hs) prefix
some_hosted prefix hs us n true listed count e =
    let none : n ≡ 0 = eqb-true n 0 (sym e) in
    (λ t. absurd (true≢false (sym t)), λ there. absurd (omega (arith, there_listed prefix hs there, ap length listed, count, none)))
some_hosted prefix hs us n false listed count e = (λ t. listed_there prefix hs (omega (arith, ap length listed, count, some_of n e)), λ there. refl)

pub none_hosted : (prefix : List ℕ) (hs : List Hosting) → hosts_of prefix hs ≡ [] → IsTrue false ↔ Contains (prefixes_of hs) prefix
none_hosted prefix hs none = (λ t. absurd (true≢false (sym t)), λ there. absurd (omega (arith, there_listed prefix hs there, ap length none)))
